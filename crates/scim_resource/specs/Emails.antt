-- The email addresses of a user (RFC 7643 section 4.1.2).
use Rattle.std.specs.Prelude.{◌≡◌, ℕ, Bool, true, List, [], ◌∷◌, length, ◌&&◌, nat_le, count_by}
use Rattle.scim_resource.specs.Texts.{IsText, IsTextIf}
use Rattle.scim_resource.specs.declared.emails.TheConstants.{EMAIL_LIMIT}
use Rattle.scim_resource.specs.declared.emails.Email.{Email}

pub record IsEmail (e : Email) : Type 0 where
  pub value : IsText e.value
  pub type_text : IsTextIf e.type_text

abbrev pub AreEmails : List Email → Type 0
AreEmails [] = Unit {0}
AreEmails (e ∷ es) = IsEmail e × AreEmails es

-- how many of them are primary
abbrev pub primaries : List Email → ℕ
primaries es = count_by (λ e. e.primary) es

-- at most ten, at most one of them primary
unfoldable pub are_few : List Email → Bool
are_few es = nat_le (length es) EMAIL_LIMIT && nat_le (primaries es) 1

-- the limits of a user's emails
pub record IsEmailList (es : List Email) : Type 0 where
  pub each : AreEmails es
  pub few : are_few es ≡ true
