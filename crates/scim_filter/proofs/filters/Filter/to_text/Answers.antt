use Rattle.std.proofs.Common.{◌≡◌, rules}
use Rattle.std.specs.Prelude.{string_bytes}
use Rattle.scim_filter.specs.Texts.{filter_text}
use Rattle.scim_filter.proofs.Spelling.{text_spells}
use Rattle.scim_filter.proofs.filters.Filter.to_text.Goals as goal

pub returns-clause-spells : goal.returns-clause-spells
returns-clause-spells c =
    let written : string_bytes c.write_filter.new.out ≡ filter_text c.args.self.now = search rules in
    rw written (text_spells c.args.self.now)
