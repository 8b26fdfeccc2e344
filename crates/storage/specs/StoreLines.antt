-- The printed lines of a store's rows.
use Rattle.std.specs.Prelude.{ℕ, Bool, List, ◌++◌, Option, Some, None, length, codes, unwrap_or, if◌then◌else◌}
use Rattle.std.specs.Fmt.{decimal}
use Rattle.std.specs.List.{flat_map}
use Rattle.scim_key.specs.Revisions.{RevisionValue, no_revision, revision_text}
use Rattle.scim_resource.specs.Contents.{content_name, content_revision, content_active, content_members}
use Rattle.scim_resource.specs.Rows.{StoredRecord}

abbrev pub user_line : (key : List ℕ) → RevisionValue → (version : ℕ) → (active : Bool) → List ℕ
user_line key held version active =
    codes "user " ++ (key ++ (codes " held="
    ++ (revision_text held ++ (codes " version="
    ++ (decimal version ++ (codes " active="
    ++ ((if active then codes "true" else codes "false") ++ codes "\n")))))))

abbrev pub group_line : (key : List ℕ) → RevisionValue → (version : ℕ) → (members : ℕ) → List ℕ
group_line key held version members =
    codes "group " ++ (key ++ (codes " held="
    ++ (revision_text held ++ (codes " version="
    ++ (decimal version ++ (codes " members=" ++ (decimal members ++ codes "\n")))))))

-- for a user whether it is active, for a group how many members it has
abbrev pub line_by : Option Bool → (key : List ℕ) → RevisionValue → (version : ℕ) → (members : ℕ) → List ℕ
line_by (Some active) key held version members = user_line key held version active
line_by None key held version members = group_line key held version members

-- the key of the name, the revision that it is the image of or 0, and the version
abbrev pub row_line : StoredRecord → List ℕ
row_line row =
    line_by (content_active row.content) (content_name row.content).key
    (unwrap_or (content_revision row.content) no_revision) row.version (length (content_members row.content))

-- the lines of these rows, in order
abbrev pub lines_of : List StoredRecord → List ℕ
lines_of rows = flat_map row_line rows
