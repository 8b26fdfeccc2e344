use Rattle.std.proofs.Common.{take, flat_map}
use Rattle.scim_json.specs.Writing.{Adds}
use Rattle.scim_resource.proofs.Written.{text_tokens}
use Rattle.scim_resource.proofs.writing.write_texts.Given as goal

abbrev pub invariant-loop-which : goal.invariant-loop-which
invariant-loop-which l = Adds (flat_map (text_tokens l.user.texts) (take l.which-index l.texts)) l.initial.out l.out
