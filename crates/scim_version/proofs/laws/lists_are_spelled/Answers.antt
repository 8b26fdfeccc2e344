use Rattle.std.proofs.Common.{refl}
use Rattle.scim_version.specs.Tags.{is_entity_tag, is_quoted, is_weak, opaque_tag}
use Rattle.scim_version.specs.Lists.{elements, kept, parts, trimmed, without_leading_blanks, without_trailing_blanks}
use Rattle.scim_version.specs.Conditions.{condition_from, condition_of, is_star, tags_from}
use Rattle.scim_version.proofs.Spelling.{Spells-from_condition, condition-from_Spells, Spells-alone, Spells-tag}
use Rattle.scim_version.proofs.laws.lists_are_spelled.Goals as goal

pub returns-clause-spelled : goal.returns-clause-spelled
returns-clause-spelled c = Spells-from_condition

pub returns-clause-read : goal.returns-clause-read
returns-clause-read c = condition-from_Spells

pub returns-clause-one : goal.returns-clause-one
returns-clause-one c = Spells-alone

pub returns-clause-tag : goal.returns-clause-tag
returns-clause-tag c = Spells-tag

pub returns-clause-tags : goal.returns-clause-tags
unfolding condition_of condition_from tags_from is_star elements kept parts trimmed without_leading_blanks without_trailing_blanks is_entity_tag is_quoted is_weak opaque_tag
returns-clause-tags c = refl

pub returns-clause-star : goal.returns-clause-star
unfolding condition_of condition_from tags_from is_star elements kept parts trimmed without_leading_blanks without_trailing_blanks is_entity_tag is_quoted is_weak opaque_tag
returns-clause-star c = refl

pub returns-clause-stars : goal.returns-clause-stars
unfolding condition_of condition_from tags_from is_star elements kept parts trimmed without_leading_blanks without_trailing_blanks is_entity_tag is_quoted is_weak opaque_tag
returns-clause-stars c = refl

pub returns-clause-unquoted : goal.returns-clause-unquoted
unfolding condition_of condition_from tags_from is_star elements kept parts trimmed without_leading_blanks without_trailing_blanks is_entity_tag is_quoted is_weak opaque_tag
returns-clause-unquoted c = refl
