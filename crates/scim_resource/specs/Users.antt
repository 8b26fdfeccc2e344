-- What a User contains, as contracts see it.
use Rattle.std.specs.Prelude.{ℕ, Bool, List, Option, Some, None}
use Rattle.scim_key.specs.Names.{IsUserName}
use Rattle.scim_key.specs.Revisions.{RevisionValue, IsRevision}
use Rattle.scim_resource.specs.Emails.{IsEmailList}
use Rattle.scim_resource.specs.UserTexts.{AreUserTexts, UserTexts}
use Rattle.scim_resource.specs.declared.emails.Email.{Email}

pub record UserRecord : Type 0 where
  pub user_name : List ℕ
  pub texts : UserTexts
  pub emails : List Email
  pub active : Bool
  pub revision : Option RevisionValue

-- a revision that the source may give, or none
abbrev pub IsSourceRevision : Option RevisionValue → Type 0
IsSourceRevision None = Unit {0}
IsSourceRevision (Some revision) = IsRevision revision

-- A valid user, as reading gives it
pub record IsUser (u : UserRecord) : Type 0 where
  pub user_name : IsUserName u.user_name
  pub texts : AreUserTexts u.texts
  pub emails : IsEmailList u.emails
  pub revision : IsSourceRevision u.revision
