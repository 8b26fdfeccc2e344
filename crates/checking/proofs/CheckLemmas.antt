-- Records that are checked one after another.
use Rattle.std.proofs.Common.{◌≡◌, ◌⊎◌, ℕ, List, [], ◌∷◌, ◌++◌, Option, Some, None, Result, Ok, Err, map, drop, length, arith, inl, inr, refl, sym, ap, subst, ◌∙◌, append_assoc, append-nil}
use Rattle.std.specs.List.{AllByRecursion, flat_map}
use Rattle.std.proofs.lemmas.Grind.{flat_map-append}
use Rattle.std.proofs.lemmas.List.{map-append}
use Rattle.scim_key.specs.declared.records.RecordName.{RecordName}
use Rattle.connector_core.specs.Book.{Book}
use Rattle.connector_core.specs.Maps.{BookMap}
use Rattle.provisioning.specs.Lists.{Adds}
use Rattle.provisioning.specs.Openings.{Opening, Opens}
use Rattle.provisioning.specs.Runs.{IsUntold}
use Rattle.provisioning.specs.declared.faults.RunFault.{RunFault}
use Rattle.provisioning.specs.declared.faults.RunFault.TheVariants.{Memory}
use Rattle.provisioning.specs.Services.{Service}
use Rattle.checking.specs.Checks.{Begins, Checked, Checks, ChecksEach, ChecksSome, IsBegun, IsChecked, IsSent, IsUnsent, MakesRoom, NotesOf, ReportsAll, ReportsOne, ReportsRest, Sends, Sent, findings_of, names_of, notes_of, openings_of}
use Rattle.checking.specs.Counting.{counts_after, no_counts, with_finding}
use Rattle.checking.specs.declared.begun.Begun.{Begun}
use Rattle.checking.specs.declared.begun.Pending.{Pending}
use Rattle.checking.specs.declared.counts.Counts.{Counts}
use Rattle.checking.specs.declared.findings.Finding.{Finding}

-- ---- lists

adds_none : {X : Type 0} (known : Option (List X)) → Adds known known []
adds_none None = tt
adds_none (Some all) = sym (append-nil all)

pub adds_more : {X : Type 0} (old between new : Option (List X)) (first then : List X) → Adds old between first
    → Adds between new then → Adds old new (first ++ then)
adds_more None between new first then a b = tt
adds_more (Some all) None new first then a b = absurd a
adds_more (Some all) (Some longer) None first then a b = absurd b
adds_more (Some all) (Some longer) (Some longest) first then a b =
    b ∙ ap (λ xs. xs ++ then) a ∙ append_assoc all first then

all_joined : {X : Type 0} (P : X → Type 0) (xs ys : List X) → AllByRecursion P xs → AllByRecursion P ys
    → AllByRecursion P (xs ++ ys)
all_joined P [] ys all more = more
all_joined P (x ∷ xs) ys all more = (all.0, all_joined P xs ys all.1 more)

-- a list from which the first can't be taken
pub none_in : {X : Type 0} (xs : List X) → xs ≡ drop 1 xs → xs ≡ []
none_in [] e = refl
none_in (x ∷ xs) e = absurd (omega (arith, ap length e))

-- ---- a record

-- nothing was opened
pub none_opened : {X : Type 0} (known : Option (List X)) → Adds known known []
none_opened known = adds_none known

-- ---- counting

counted_more : (counts : Counts) (findings : List Finding) (finding : Finding)
    → counts_after counts (findings ++ finding ∷ []) ≡ with_finding (counts_after counts findings) finding
counted_more counts [] finding = refl
counted_more counts (f ∷ findings) finding = counted_more (with_finding counts f) findings finding

-- ---- records

abbrev pending_of : {I O : Type 0} → Sent I O → Pending I O
pending_of s = record { name = s.name; begun = s.begun }

abbrev sent_of : {I O : Type 0} → Checked I O → Sent I O
sent_of c = record { name = c.name; opened = c.opened; begun = c.begun }

sent_names : {I O : Type 0} (cs : List (Checked I O)) → map (λ s. s.name) (map sent_of cs) ≡ names_of cs
sent_names [] = refl
sent_names (c ∷ cs) = ap (λ l. c.name ∷ l) (sent_names cs)

sent_openings : {I O : Type 0} (cs : List (Checked I O)) → flat_map (λ s. s.opened) (map sent_of cs) ≡ openings_of cs
sent_openings [] = refl
sent_openings (c ∷ cs) = ap (λ l. c.opened ++ l) (sent_openings cs)

module _ {I O : Type 0} (remaining : I → Option (List ℕ)) (contents : O → Option (List ℕ)) (service : Service)
    (book : Book) where
  -- memory ran out before the record was begun
  pub unsent : (opened : Option (List (Opening I O))) (name : RecordName) (fault : RunFault)
      (result : Result (Begun I O) RunFault) → result ≡ Err fault → fault ≡ Memory
      → Opens opened opened (λ added. Begins contents service book name added result)
  unsent opened name fault result is memory = ([], adds_none opened, rw (is, memory) (inr (refl, refl)))

module _ {N I O : Type 0} (note : NotesOf N) (remaining : I → Option (List ℕ)) (contents : O → Option (List ℕ))
    (service : Service) (book : Book) where
  all_sent : (cs : List (Checked I O)) → AllByRecursion (IsChecked remaining contents service book) cs
      → AllByRecursion (IsSent remaining contents service book) (map sent_of cs)
  all_sent [] all = tt
  all_sent (c ∷ cs) all = (all.0.begins, all_sent cs all.1)

  -- these records were checked, reported and counted, and then these were begun, which are under way
  pub record UnderWay (names : List RecordName) (opened : List (Opening I O)) (before told : Option (List N))
      (counts : Counts) (queue : List (Pending I O)) : Type 0 where
    pub checked : List (Checked I O)
    pub sent : List (Sent I O)
    pub names_are : names ≡ names_of checked ++ map (λ s. s.name) sent
    pub opened_are : opened ≡ openings_of checked ++ flat_map (λ s. s.opened) sent
    pub each : AllByRecursion (IsChecked remaining contents service book) checked
    pub begun : AllByRecursion (IsSent remaining contents service book) sent
    pub reported : Adds before told (notes_of note checked)
    pub counts_are : counts ≡ counts_after no_counts (findings_of checked)
    pub queue_is : queue ≡ map pending_of sent

  -- no record yet
  pub none_yet : (told : Option (List N)) → UnderWay [] [] told told no_counts []
  none_yet told = record {
    checked = [];
    sent = [];
    names_are = refl;
    opened_are = refl;
    each = tt;
    begun = tt;
    reported = adds_none told;
    counts_are = refl;
    queue_is = refl;
  }

  -- one more was begun
  pub sent_more : (names : List RecordName) (name : RecordName) (opened first : List (Opening I O))
      (before told : Option (List N)) (counts : Counts) (queue new : List (Pending I O)) (begun : Begun I O)
      → UnderWay names opened before told counts queue → IsBegun contents service book name first begun
      → new ≡ queue ++ record { name = name; begun = begun } ∷ []
      → UnderWay (names ++ name ∷ []) (opened ++ first) before told counts new
  sent_more names name opened first before told counts queue new begun all begins is =
      let s : Sent I O = record { name = name; opened = first; begun = begun } in record {
        checked = all.checked;
        sent = all.sent ++ s ∷ [];
        names_are = ap (λ l. l ++ name ∷ []) all.names_are
            ∙ append_assoc (names_of all.checked) (map (λ t. t.name) all.sent) (name ∷ [])
            ∙ ap (λ l. names_of all.checked ++ l) (sym (map-append (λ t. t.name) all.sent (s ∷ [])));
        opened_are = ap (λ l. l ++ first) all.opened_are
            ∙ append_assoc (openings_of all.checked) (flat_map (λ t. t.opened) all.sent) first
            ∙ ap (λ l. openings_of all.checked ++ (flat_map (λ t. t.opened) all.sent ++ l)) (sym (append-nil first))
            ∙ ap (λ l. openings_of all.checked ++ l) (sym (flat_map-append (λ t. t.opened) all.sent (s ∷ [])));
        each = all.each;
        begun = all_joined _ all.sent (s ∷ []) all.begun (begins, tt);
        reported = all.reported;
        counts_are = all.counts_are;
        queue_is = is ∙ ap (λ l. l ++ pending_of s ∷ []) all.queue_is
            ∙ sym (map-append pending_of all.sent (s ∷ []));
      }

  -- the first of these was reported
  first_of_sent : (names : List RecordName) (opened : List (Opening I O)) (before told after : Option (List N))
      (counts more : Counts) (cs : List (Checked I O)) (s : Sent I O) (ss : List (Sent I O))
      → names ≡ names_of cs ++ s.name ∷ map (λ t. t.name) ss
      → opened ≡ openings_of cs ++ (s.opened ++ flat_map (λ t. t.opened) ss)
      → AllByRecursion (IsChecked remaining contents service book) cs
      → AllByRecursion (IsSent remaining contents service book) (s ∷ ss)
      → Adds before told (notes_of note cs) → counts ≡ counts_after no_counts (findings_of cs)
      → ReportsOne note remaining s.name s.begun counts told after more
      → UnderWay names opened before after more (map pending_of ss)
  first_of_sent names opened before told after counts more cs s ss ns os each begun told_are counts_are reports =
      let c : Checked I O = record {
        name = s.name;
        opened = s.opened;
        begun = s.begun;
        finding = reports.finding;
      } in record {
        checked = cs ++ c ∷ [];
        sent = ss;
        names_are = ns ∙ sym (append_assoc (names_of cs) (s.name ∷ []) (map (λ t. t.name) ss))
            ∙ ap (λ l. l ++ map (λ t. t.name) ss) (sym (map-append (λ d. d.name) cs (c ∷ [])));
        opened_are = os ∙ sym (append_assoc (openings_of cs) s.opened (flat_map (λ t. t.opened) ss))
            ∙ ap (λ l. (openings_of cs ++ l) ++ flat_map (λ t. t.opened) ss) (sym (append-nil s.opened))
            ∙ ap (λ l. l ++ flat_map (λ t. t.opened) ss) (sym (flat_map-append (λ d. d.opened) cs (c ∷ [])));
        each = all_joined _ cs (c ∷ []) each (record { begins = begun.0; found = reports.found }, tt);
        begun = begun.1;
        reported = subst (λ l. Adds before after l)
            (ap (λ l. notes_of note cs ++ l) (sym (append-nil (note s.name reports.finding)))
            ∙ sym (flat_map-append (λ d. note d.name d.finding) cs (c ∷ [])))
            (adds_more before told after (notes_of note cs) (note s.name reports.finding) told_are reports.noted);
        counts_are = reports.counts_are ∙ ap (λ n. with_finding n reports.finding) counts_are
            ∙ sym (counted_more no_counts (findings_of cs) reports.finding)
            ∙ ap (λ l. counts_after no_counts l) (sym (map-append (λ d. d.finding) cs (c ∷ [])));
        queue_is = refl;
      }

  first_by : (names : List RecordName) (opened : List (Opening I O)) (before told after : Option (List N))
      (counts more : Counts) (cs : List (Checked I O)) (ss : List (Sent I O)) (p : Pending I O)
      (ps : List (Pending I O))
      → names ≡ names_of cs ++ map (λ t. t.name) ss → opened ≡ openings_of cs ++ flat_map (λ t. t.opened) ss
      → AllByRecursion (IsChecked remaining contents service book) cs
      → AllByRecursion (IsSent remaining contents service book) ss
      → Adds before told (notes_of note cs) → counts ≡ counts_after no_counts (findings_of cs)
      → p ∷ ps ≡ map pending_of ss → ReportsOne note remaining p.name p.begun counts told after more
      → UnderWay names opened before after more ps
  first_by names opened before told after counts more cs [] p ps ns os each begun told_are counts_are is reports = cc
  first_by names opened before told after counts more cs (s ∷ ss) p ps ns os each begun told_are counts_are is
      reports =
      let here : p ≡ pending_of s = cc in
      let rest : map pending_of ss ≡ ps = cc in
      let said : ReportsOne note remaining s.name s.begun counts told after more =
      subst (λ q. ReportsOne note remaining q.name q.begun counts told after more) here reports in
      subst (λ q. UnderWay names opened before after more q) rest
      (first_of_sent names opened before told after counts more cs s ss ns os each begun told_are counts_are said)

  pub first_reported : (names : List RecordName) (opened : List (Opening I O)) (before told after : Option (List N))
      (counts more : Counts) (p : Pending I O) (ps : List (Pending I O))
      → UnderWay names opened before told counts (p ∷ ps)
      → ReportsOne note remaining p.name p.begun counts told after more
      → UnderWay names opened before after more ps
  first_reported names opened before told after counts more p ps all reports =
      first_by names opened before told after counts more all.checked all.sent p ps all.names_are all.opened_are
      all.each all.begun all.reported all.counts_are all.queue_is reports

  -- there is room for one more
  pub room_made : (names : List RecordName) (opened : List (Opening I O)) (before told after : Option (List N))
      (counts more : Counts) (old new : List (Pending I O)) → UnderWay names opened before told counts old
      → MakesRoom note remaining old new counts told after (Ok more) → UnderWay names opened before after more new
  room_made names opened before told after counts more [] new all (inl made) = rw (made.0, made.1, made.2) all
  room_made names opened before told after counts more (p ∷ ps) new all (inl made) =
      rw made.0 (first_reported names opened before told after counts more p ps all made.1)
  room_made names opened before told after counts more old new all (inr same) = rw (same.0, same.1, same.2) all

  -- none is under way any more
  none_left : (names : List RecordName) (opened : List (Opening I O)) (before told : Option (List N))
      (counts : Counts) (cs : List (Checked I O)) (ss : List (Sent I O))
      → names ≡ names_of cs ++ map (λ t. t.name) ss → opened ≡ openings_of cs ++ flat_map (λ t. t.opened) ss
      → AllByRecursion (IsChecked remaining contents service book) cs
      → Adds before told (notes_of note cs) → counts ≡ counts_after no_counts (findings_of cs)
      → [] ≡ map pending_of ss → ChecksEach note remaining contents service book names opened before told counts
  none_left names opened before told counts cs [] ns os each told_are counts_are is = record {
    checked = cs;
    names_are = ns ∙ append-nil (names_of cs);
    opened_are = os ∙ append-nil (openings_of cs);
    each = each;
    noted = told_are;
    counts_are = counts_are;
  }
  none_left names opened before told counts cs (s ∷ ss) ns os each told_are counts_are is = cc

  -- all that were under way were reported
  pub all_reported : (names : List RecordName) (opened : List (Opening I O)) (before told after : Option (List N))
      (counts more : Counts) (queue : List (Pending I O)) → UnderWay names opened before told counts queue
      → ReportsAll note remaining queue counts told after more
      → ChecksEach note remaining contents service book names opened before after more
  all_reported names opened before told after counts more [] all reports = rw (reports.0, reports.1)
      (none_left names opened before told counts all.checked all.sent all.names_are all.opened_are all.each all.reported
      all.counts_are all.queue_is)
  all_reported names opened before told after counts more (p ∷ ps) all reports =
      all_reported names opened before reports.0 after reports.1 more ps
      (first_reported names opened before told reports.0 counts reports.1 p ps all reports.2) reports.3

  -- the run ended here
  pub broken : (names others : List RecordName) (opened last : List (Opening I O)) (before told : Option (List N))
      (counts : Counts) (queue : List (Pending I O)) (fault : RunFault)
      → UnderWay names opened before told counts queue → IsUnsent last fault ⊎ ((last ≡ []) × IsUntold fault)
      → ChecksSome remaining contents service book (names ++ others) (opened ++ last) fault
  broken names others opened last before told counts queue fault all ends = record {
    sent = map sent_of all.checked ++ all.sent;
    rest = others;
    last = last;
    names_are = ap (λ l. l ++ others) (all.names_are
        ∙ ap (λ l. l ++ map (λ s. s.name) all.sent) (sym (sent_names all.checked))
        ∙ sym (map-append (λ s. s.name) (map sent_of all.checked) all.sent));
    opened_are = ap (λ l. l ++ last) (all.opened_are
        ∙ ap (λ l. l ++ flat_map (λ s. s.opened) all.sent) (sym (sent_openings all.checked))
        ∙ sym (flat_map-append (λ s. s.opened) (map sent_of all.checked) all.sent));
    each = all_joined _ (map sent_of all.checked) all.sent (all_sent all.checked all.each) all.begun;
    ends = ends;
  }

  -- these records were begun, and those wait
  abbrev pub HasBegun : (names waiting : List RecordName) (opened : List (Opening I O))
      (before told : Option (List N)) (counts : Counts) (queue : List (Pending I O)) → Type 0
  HasBegun names waiting opened before told counts queue = (begun : List RecordName) × (names ≡ begun ++ waiting)
      × UnderWay begun opened before told counts queue

  -- none has begun
  pub all_wait : (known : Option (List (Opening I O))) (names : List RecordName) (told : Option (List N))
      (counts : Counts) (queue : List (Pending I O)) → counts ≡ no_counts → queue ≡ []
      → Opens known known (λ opened. HasBegun names names opened told told counts queue)
  all_wait known names told counts queue zero none =
      ([], adds_none known, ([], refl, rw (zero, none) (none_yet told)))

  -- the first that waits has begun
  pub goes_on : (old between new : Option (List (Opening I O))) (names waiting rest : List RecordName)
      (name : RecordName) (before told after : Option (List N)) (counts more : Counts)
      (queue free later : List (Pending I O)) → waiting ≡ name ∷ rest
      → Opens old between (λ opened. HasBegun names waiting opened before told counts queue)
      → MakesRoom note remaining queue free counts told after (Ok more)
      → Opens between new (λ opened. Sends contents service book name opened free later (Ok tt))
      → Opens old new (λ opened. HasBegun names rest opened before after more later)
  goes_on old between new names waiting rest name before told after counts more queue free later is all room sent =
      let held = all.2 in
      let now = room_made held.0 all.0 before told after counts more queue free held.2 room in (
        all.0 ++ sent.0,
        adds_more old between new all.0 sent.0 all.1 sent.1,
        (
          held.0 ++ name ∷ [],
          held.1 ∙ ap (λ l. held.0 ++ l) is ∙ sym (append_assoc held.0 (name ∷ []) rest),
          sent_more held.0 name all.0 sent.0 before after more free later sent.2.0 now sent.2.1 sent.2.2,
        ),
      )

  -- a finding couldn't be reported
  pub ends_untold : (old new : Option (List (Opening I O))) (names waiting : List RecordName)
      (before told after : Option (List N)) (counts : Counts) (queue : List (Pending I O)) (fault given : RunFault)
      (result : Result Counts RunFault) → result ≡ Err given → given ≡ fault → IsUntold fault
      → Opens old new (λ opened. HasBegun names waiting opened before told counts queue)
      → Opens old new (λ opened. Checks note remaining contents service book names opened before after result)
  ends_untold old new names waiting before told after counts queue fault given result is same untold all =
      let held = all.2 in
      let ended : ChecksSome remaining contents service book (held.0 ++ waiting) (all.0 ++ []) fault =
      broken held.0 waiting all.0 [] before told counts queue fault held.2 (inr (refl, untold)) in
      let whole : ChecksSome remaining contents service book (held.0 ++ waiting) all.0 fault =
      subst (λ os. ChecksSome remaining contents service book (held.0 ++ waiting) os fault) (append-nil all.0) ended in (
        all.0,
        all.1,
        rw (is, same)
            (subst (λ ns. ChecksSome remaining contents service book ns all.0 fault) (sym held.1) whole),
      )

  -- the first that waits couldn't be begun
  pub ends_unsent : (old between new : Option (List (Opening I O))) (names waiting : List RecordName)
      (before told late after : Option (List N)) (counts more : Counts) (queue free : List (Pending I O))
      (fault given : RunFault) (result : Result Counts RunFault) → result ≡ Err given → given ≡ fault
      → Opens old between (λ opened. HasBegun names waiting opened before told counts queue)
      → MakesRoom note remaining queue free counts told late (Ok more)
      → Opens between new (λ opened. IsUnsent opened fault)
      → Opens old new (λ opened. Checks note remaining contents service book names opened before after result)
  ends_unsent old between new names waiting before told late after counts more queue free fault given result is same all
      room sent =
      let held = all.2 in
      let now = room_made held.0 all.0 before told late counts more queue free held.2 room in
      let ended : ChecksSome remaining contents service book (held.0 ++ waiting) (all.0 ++ sent.0) fault =
      broken held.0 waiting all.0 sent.0 before late more free fault now (inl sent.2) in (
        all.0 ++ sent.0,
        adds_more old between new all.0 sent.0 all.1 sent.1,
        rw (is, same)
            (subst (λ ns. ChecksSome remaining contents service book ns (all.0 ++ sent.0) fault) (sym held.1) ended),
      )

  -- none waits any more
  pub finishes : (old new : Option (List (Opening I O))) (names waiting : List RecordName)
      (before told after : Option (List N)) (counts : Counts) (queue : List (Pending I O))
      (result : Result Counts RunFault) → waiting ≡ []
      → Opens old new (λ opened. HasBegun names waiting opened before told counts queue)
      → ReportsRest note remaining queue counts told after result
      → Opens old new (λ opened. Checks note remaining contents service book names opened before after result)
  finishes old new names waiting before told after counts queue (Ok more) none all reports =
      let held = all.2 in
      let begun : held.0 ≡ names = sym (held.1 ∙ ap (λ l. held.0 ++ l) none ∙ append-nil held.0) in (
        all.0,
        all.1,
        subst (λ ns. ChecksEach note remaining contents service book ns all.0 before after more) begun
            (all_reported held.0 all.0 before told after counts more queue held.2 reports),
      )
  finishes old new names waiting before told after counts queue (Err fault) none all untold =
      ends_untold old new names waiting before told after counts queue fault fault (Err fault) refl refl untold all

  -- memory ran out after all were reported
  pub all_begun : (names : List RecordName) (opened : List (Opening I O)) (before after : Option (List N))
      (counts : Counts) (fault : RunFault)
      → ChecksEach note remaining contents service book names opened before after counts
      → fault ≡ Memory → ChecksSome remaining contents service book names opened fault
  all_begun names opened before after counts fault all memory = record {
    sent = map sent_of all.checked;
    rest = [];
    last = [];
    names_are = all.names_are ∙ sym (sent_names all.checked)
        ∙ sym (append-nil (map (λ s. s.name) (map sent_of all.checked)));
    opened_are = all.opened_are ∙ sym (sent_openings all.checked)
        ∙ sym (append-nil (flat_map (λ s. s.opened) (map sent_of all.checked)));
    each = all_sent all.checked all.each;
    ends = inr (refl, inr memory);
  }
