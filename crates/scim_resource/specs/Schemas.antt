-- The URNs of schemas.
use Rattle.std.specs.Prelude.{ℕ, List, codes}

-- the core schema of users (RFC 7643 section 4.1)
unfoldable pub core_user : List ℕ
core_user = codes "urn:ietf:params:scim:schemas:core:2.0:User"

-- the core schema of groups (RFC 7643 section 4.2)
unfoldable pub core_group : List ℕ
core_group = codes "urn:ietf:params:scim:schemas:core:2.0:Group"

-- the enterprise extension of users (RFC 7643 section 4.3)
unfoldable pub enterprise_extension : List ℕ
enterprise_extension = codes "urn:ietf:params:scim:schemas:extension:enterprise:2.0:User"

-- the extension with the source's revision
unfoldable pub source_extension : List ℕ
source_extension = codes "urn:example:params:scim:schemas:extension:source:1.0"
