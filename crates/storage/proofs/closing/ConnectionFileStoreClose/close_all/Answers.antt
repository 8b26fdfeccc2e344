use Rattle.storage.proofs.closing.ConnectionFileStoreClose.close_all.Goals as goal

pub returns : goal.returns
returns g c = record { copied = c.close_files.ensures.copied; err = c.close_files.ensures.err }
