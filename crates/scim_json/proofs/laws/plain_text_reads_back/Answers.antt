use Rattle.scim_json.proofs.Texts.{read-compact_text}
use Rattle.scim_json.proofs.Utf8Texts.{IsUtf8-compact_text, json_of-compact_text}
use Rattle.scim_json.proofs.laws.plain_text_reads_back.Goals as goal

pub returns : goal.returns
returns c = record { spells = read-compact_text; utf8 = IsUtf8-compact_text; again = json_of-compact_text }
