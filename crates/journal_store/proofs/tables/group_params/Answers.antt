use Rattle.std.proofs.Common.{◌∙◌, ap}
use Rattle.sqlite_value.specs.declared.value.Value.TheVariants.{Text}
use Rattle.journal_store.specs.Rows.{epoch_value, revision_value}
use Rattle.journal_store.proofs.Written.{group_bound}
use Rattle.journal_store.proofs.tables.group_params.Goals as goal

pub returns : goal.returns
returns c =
    group_bound c.args.group.now c.args.confirmed c.args.id.now
    (c.text_param.ensures ∙ ap Text (c.as_str.ensures.value ∙ c.requires.key))
    (c.text_param-2.ensures ∙ ap Text (c.as_str-2.ensures.value ∙ c.name.ensures.value))
    (c.revision_param.ensures ∙ ap revision_value c.requires.revision)
    (c.text_param-3.ensures ∙ ap Text c.requires.members)
    c.revision_param-2.ensures c.id_param.ensures
    (c.epoch_param.ensures ∙ ap epoch_value c.requires.revision)
    c.epoch_param-2.ensures
