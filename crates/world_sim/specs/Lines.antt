-- What reports and views are printed as.
use Rattle.std.specs.Prelude.{ℕ, List, ◌++◌, Bool, true, false, Option, Some, None, Ok, Err, codes}
use Rattle.std.specs.Fmt.{decimal}
use Rattle.scim_key.specs.Revisions.{revision_text}
use Rattle.scim_key.specs.declared.records.Kind.{Kind}
use Rattle.scim_key.specs.declared.records.Kind.TheVariants.{User, Group}
use Rattle.journal_core.specs.Words.{kind_word}
use Rattle.connector_core.specs.declared.accepting.Verdict.TheVariants as verdicts
use Rattle.connector_core.specs.Codes.{change_fault_text, learn_fault_text}
use Rattle.connector_core.specs.declared.learning.Learnt.TheVariants as lessons
use Rattle.world_sim.specs.declared.reports.Report.{Report}
use Rattle.world_sim.specs.declared.reports.Report.TheVariants as reports
use Rattle.world_sim.specs.declared.settling.Count.{Count}
use Rattle.world_sim.specs.declared.views.View.{View}

-- a word, and a number after a space
abbrev pub numbered : (word : List ℕ) → ℕ → List ℕ
numbered word number = word ++ (codes " " ++ decimal number)

abbrev pub report_text : Report → List ℕ
report_text (reports.Judged (Ok verdicts.New)) = codes "new"
report_text (reports.Judged (Ok verdicts.Known)) = codes "known"
report_text (reports.Judged (Ok verdicts.Older)) = codes "older"
report_text (reports.Judged (Err fault)) = change_fault_text fault
report_text reports.UnknownRecord = codes "C7"
report_text reports.Idle = codes "nothing"
report_text (reports.Waiting member) = codes "waits " ++ member
report_text (reports.Finding number) = numbered (codes "find") number
report_text (reports.Creating number) = numbered (codes "create") number
report_text (reports.Replacing number) = numbered (codes "replace") number
report_text (reports.Answering number status) = numbered (codes "answer") number ++ (codes " " ++ decimal status)
report_text (reports.Taught (Ok (lessons.Confirmed revision))) = codes "confirmed " ++ revision_text revision
report_text (reports.Taught (Ok lessons.Seen)) = codes "seen"
report_text (reports.Taught (Ok lessons.Absent)) = codes "absent"
report_text (reports.Taught (Ok lessons.Forgotten)) = codes "forgotten"
report_text (reports.Taught (Ok lessons.Nothing)) = codes "nothing"
report_text (reports.Taught (Err fault)) = learn_fault_text fault
report_text reports.NoMessage = codes "none"
report_text reports.CutShort = codes "cut"
report_text reports.Restarted = codes "restarted"
report_text reports.Doubted = codes "doubted"

abbrev pub flag_text : Bool → List ℕ
flag_text true = codes "true"
flag_text false = codes "false"

-- for a group how many members are held, for a user whether it is active, or a hyphen if none is held
abbrev pub held_text : Kind → Option Bool → (members : ℕ) → List ℕ
held_text Group _ members = codes "members=" ++ decimal members
held_text User (Some active) _ = codes "active=" ++ flag_text active
held_text User None _ = codes "active=-"

-- what the provider holds of a record
abbrev pub holding_text : View → List ℕ
holding_text view =
    codes "held=" ++ (revision_text view.held
    ++ (codes " version=" ++ (decimal view.version
    ++ (codes " " ++ held_text view.name.kind view.active view.members))))

abbrev pub view_text : View → List ℕ
view_text view =
    kind_word view.name.kind ++ (codes " " ++ (view.name.key
    ++ (codes " wanted=" ++ (revision_text view.wanted
    ++ (codes " confirmed=" ++ (revision_text view.confirmed
    ++ (codes " " ++ holding_text view)))))))

-- the same of a record that isn't ours
abbrev pub others_text : View → List ℕ
others_text view =
    codes "other " ++ (kind_word view.name.kind ++ (codes " " ++ (view.name.key ++ (codes " " ++ holding_text view))))

abbrev pub count_text : Count → List ℕ
count_text count = codes "settled in " ++ (decimal count.exchanges ++ codes " exchanges")
