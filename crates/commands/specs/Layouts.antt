-- How the snapshots of a push are laid out, by its arguments.
use Rattle.std.specs.Prelude.{◌≡◌, ◌⊎◌, ◌==◌, ◌&&◌, ◌||◌, ℕ, Bool, true, false, not, List, [], length, map, filter_map, Option, Some, None, is_some, option_map, Result, Ok, Err, codes, if◌then◌else◌, string_bytes, unwrap_or}
use Rattle.std.specs.List.{after_first, before_first, count_by, list_all}
use Rattle.std.specs.Str.{bytes_eq}
use Rattle.clap.specs.Matches.{first_value, matched_of, one_text, raw_values}
use Rattle.clap.specs.declared.parser.matches.Found.{Found}
use Rattle.scim_key.specs.declared.records.Kind.{Kind}
use Rattle.scim_key.specs.declared.records.Kind.TheVariants as kind
use Rattle.source_csv.specs.Layouts.{column_named}
use Rattle.source_csv.specs.declared.layouts.Alias.{Alias}
use Rattle.source_csv.specs.declared.layouts.Column.{Column}
use Rattle.source_csv.specs.declared.layouts.Layout.{Layout}
use Rattle.source_csv.specs.declared.layouts.Separator.{Separator}
use Rattle.source_csv.specs.declared.layouts.Separator.TheVariants.{Comma, Semicolon, Tab}
use Rattle.provisioning.specs.declared.today.Layouts.{Layouts}
use Rattle.commands.specs.Simulating.{is_set}
use Rattle.commands.specs.declared.status.CommandFault.{CommandFault}
use Rattle.commands.specs.declared.status.CommandFault.TheVariants as fault

-- the files are snapshots
abbrev pub is_snapshot : Found → Bool
is_snapshot found = is_set (one_text found (codes "snapshot"))

-- ---- `--separator`

abbrev pub named_separator : List ℕ → Result Separator CommandFault
named_separator text =
    if bytes_eq text (codes "comma") then Ok Comma
    else if bytes_eq text (codes "semicolon") then Ok Semicolon
    else if bytes_eq text (codes "tab") then Ok Tab
    else Err fault.Separator

-- a comma, if the arguments name none
abbrev pub wanted_separator : Option (List ℕ) → Result Separator CommandFault
wanted_separator None = Ok Comma
wanted_separator (Some text) = named_separator text

-- ---- `--column OURS=THEIRS`

-- the values, in their order
abbrev pub column_texts : Found → List (List ℕ)
column_texts found = unwrap_or (option_map raw_values (matched_of found (codes "column"))) []

abbrev pub ours_in : List ℕ → List ℕ
ours_in text = before_first (λ b. b == 61) text

abbrev pub theirs_in : List ℕ → List ℕ
theirs_in text = after_first (λ b. b == 61) text

-- the name of a column of a snapshot of users, or of groups
abbrev pub is_of_ours : List ℕ → Bool
is_of_ours name = is_some (column_named kind.User name) || is_some (column_named kind.Group name)

-- a column of ours, and a name that isn't empty
abbrev pub is_column : List ℕ → Bool
is_column text = is_of_ours (ours_in text) && not (length (theirs_in text) == 0)

abbrev pub same_column : (one other : List ℕ) → Bool
same_column one other = bytes_eq (ours_in one) (ours_in other)

abbrev pub is_once : (texts : List (List ℕ)) → List ℕ → Bool
is_once texts text = count_by (same_column text) texts == 1

-- each value is OURS=THEIRS, with each column of ours once
abbrev pub are_columns : List (List ℕ) → Bool
are_columns texts = list_all (λ text. is_column text && is_once texts text) texts

-- the column of ours and its name in the header, as an alias has them
abbrev pub view_of : Alias → Column × List ℕ
view_of alias = (alias.column, string_bytes alias.named)

-- the alias of a snapshot of this kind, if it has this column
abbrev pub alias_in : Kind → List ℕ → Option (Column × List ℕ)
alias_in of text = option_map (λ column. (column, theirs_in text)) (column_named of (ours_in text))

-- ---- the layouts

-- the snapshot of this kind is laid out so
pub record IsLayout (of : Kind) (separator : Separator) (texts : List (List ℕ)) (layout : Layout) : Type 0 where
  pub separated : layout.separator ≡ separator
  pub renamed : map view_of layout.aliases.items ≡ filter_map (alias_in of) texts

-- the snapshots are laid out by this separator and these values; or one of these is no column, or memory ran out
abbrev pub LaysOut : Separator → (texts : List (List ℕ)) → Result Layouts CommandFault → Type 0
LaysOut separator texts (Ok layouts) = (are_columns texts ≡ true)
    × IsLayout kind.User separator texts layouts.users × IsLayout kind.Group separator texts layouts.groups
LaysOut separator texts (Err why) = ((why ≡ fault.Column) × (are_columns texts ≡ false)) ⊎ (why ≡ fault.Memory)

-- by the separator that the arguments name
abbrev pub LaysOutBy : Result Separator CommandFault → (texts : List (List ℕ)) → Result Layouts CommandFault → Type 0
LaysOutBy (Ok separator) texts result = LaysOut separator texts result
LaysOutBy (Err wrong) texts result = result ≡ Err wrong

-- the layouts of snapshots, or what is wrong with the arguments
abbrev pub GivesLayoutsOf : Found → Result Layouts CommandFault → Type 0
GivesLayoutsOf found result =
    LaysOutBy (wanted_separator (first_value found (codes "separator"))) (column_texts found) result

-- none, if the files aren't snapshots
abbrev pub GivesLayouts : Found → Result (Option Layouts) CommandFault → Type 0
GivesLayouts found (Ok None) = is_snapshot found ≡ false
GivesLayouts found (Ok (Some layouts)) = (is_snapshot found ≡ true) × GivesLayoutsOf found (Ok layouts)
GivesLayouts found (Err why) = (is_snapshot found ≡ true) × GivesLayoutsOf found (Err why)
