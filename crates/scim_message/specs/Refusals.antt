-- Refusals as answers: the status, the scimType if there is one, and the detail of each.
use Rattle.std.specs.Prelude.{ℕ, ◌≤◌, List, Option, Some, None, codes}
use Rattle.scim_message.specs.declared.refusals.Refusal.{Refusal}
use Rattle.scim_message.specs.declared.refusals.Refusal.TheVariants.{UnreadableBody, ValueNotAllowed, FilterNotSupported, NameFixed, NoSuchResource, NameTaken, OtherVersion, MethodNotSupported, LimitReached, Malformed, Host, LengthMissing, BodyTooLong, HeadTooLong, TransferCoding, Expectation, MediaType, NoSuchPath}

-- a status code that reports an error (RFC 9110 section 15)
abbrev pub IsErrorStatus : ℕ → Type 0
IsErrorStatus status = (400 ≤ status) × (status ≤ 599)

-- what an error message says (RFC 7644 section 3.12)
pub record ErrorRecord : Type 0 where
  pub status : ℕ
  pub scim_type : Option (List ℕ)
  pub detail : Option (List ℕ)

abbrev pub refusal_status : Refusal → ℕ
refusal_status UnreadableBody = 400
refusal_status ValueNotAllowed = 400
refusal_status FilterNotSupported = 400
refusal_status NameFixed = 400
refusal_status NoSuchResource = 404
refusal_status NameTaken = 409
refusal_status OtherVersion = 412
refusal_status MethodNotSupported = 501
refusal_status LimitReached = 500
refusal_status Malformed = 400
refusal_status Host = 400
refusal_status LengthMissing = 411
refusal_status BodyTooLong = 413
refusal_status HeadTooLong = 431
refusal_status TransferCoding = 501
refusal_status Expectation = 417
refusal_status MediaType = 415
refusal_status NoSuchPath = 404

abbrev pub refusal_type : Refusal → Option (List ℕ)
refusal_type UnreadableBody = Some (codes "invalidSyntax")
refusal_type ValueNotAllowed = Some (codes "invalidValue")
refusal_type FilterNotSupported = Some (codes "invalidFilter")
refusal_type NameFixed = Some (codes "mutability")
refusal_type NoSuchResource = None
refusal_type NameTaken = Some (codes "uniqueness")
refusal_type OtherVersion = None
refusal_type MethodNotSupported = None
refusal_type LimitReached = None
refusal_type Malformed = None
refusal_type Host = None
refusal_type LengthMissing = None
refusal_type BodyTooLong = None
refusal_type HeadTooLong = None
refusal_type TransferCoding = None
refusal_type Expectation = None
refusal_type MediaType = None
refusal_type NoSuchPath = None

abbrev pub refusal_detail : Refusal → List ℕ
refusal_detail UnreadableBody = codes "the body is not a readable resource"
refusal_detail ValueNotAllowed = codes "a value is missing or not allowed"
refusal_detail FilterNotSupported = codes "the filter is not supported"
refusal_detail NameFixed = codes "the name of a resource is fixed"
refusal_detail NoSuchResource = codes "no such resource"
refusal_detail NameTaken = codes "the name is taken"
refusal_detail OtherVersion = codes "the resource has another version"
refusal_detail MethodNotSupported = codes "the method is not supported"
refusal_detail LimitReached = codes "a limit of the provider is reached"
refusal_detail Malformed = codes "the request is malformed"
refusal_detail Host = codes "the Host field is missing or repeated"
refusal_detail LengthMissing = codes "the length of the body is missing"
refusal_detail BodyTooLong = codes "the body is too long"
refusal_detail HeadTooLong = codes "the head is too long"
refusal_detail TransferCoding = codes "transfer codings are not supported"
refusal_detail Expectation = codes "expectations are not supported"
refusal_detail MediaType = codes "the media type is not supported"
refusal_detail NoSuchPath = codes "no such path"

-- The error message for a refusal
abbrev pub error_of : Refusal → ErrorRecord
error_of refusal =
    record { status = refusal_status refusal; scim_type = refusal_type refusal; detail = Some (refusal_detail refusal) }

-- an error message that says only its status
abbrev pub bare_error : (status : ℕ) → ErrorRecord
bare_error status = record { status = status; scim_type = None; detail = None }
