use Rattle.storage.proofs.store_file.StoreFile.rows_of.Goals as goal

pub returns-in-Ok : goal.returns-in-Ok
returns-in-Ok g c =
    let it = c.in-Ok.ensures.opened in
    record { opened = it.opened; found = λ honest. (c.args.files, c.requires.given, it.found honest) }
