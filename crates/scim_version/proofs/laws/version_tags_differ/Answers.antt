use Rattle.std.proofs.Common.{refl, arith}
use Rattle.std.proofs.lemmas.Fmt.{decimal_digit}
use Rattle.scim_version.specs.Tags.{is_weak, strong_eq, version_tag}
use Rattle.scim_version.proofs.Grammar.{IsEntityTag-from_test, version_tag_is_entity_tag}
use Rattle.scim_version.proofs.Versions.{strong_eq-versions, has_version-alone}
use Rattle.scim_version.proofs.laws.version_tags_differ.Goals as goal

pub returns-clause-lawful : goal.returns-clause-lawful
returns-clause-lawful c = λ n small. IsEntityTag-from_test (version_tag n) (version_tag_is_entity_tag n small)

pub returns-clause-strong : goal.returns-clause-strong
returns-clause-strong c = strong_eq-versions

pub returns-clause-alone : goal.returns-clause-alone
returns-clause-alone c = has_version-alone

pub returns-clause-zeros : goal.returns-clause-zeros
unfolding strong_eq is_weak
returns-clause-zeros c = rw (decimal_digit 1 (omega arith)) refl
