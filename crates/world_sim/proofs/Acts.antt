-- Somebody else's request at the provider of the running world.
use Rattle.std.proofs.Common.{◌≡◌, ℕ, inl, inr, List, Option, Result, Ok, Err, IfErr, ap, subst, ◌∙◌}
use Rattle.scim_key.specs.Stores.{HasRisen}
use Rattle.scim_message.specs.Messages.{answer_status}
use Rattle.scim_message.specs.declared.messages.Request.{Request}
use Rattle.scim_resource.specs.Contents.{content_name}
use Rattle.scim_resource.specs.Rows.{StoredRecord}
use Rattle.scim_resource.specs.declared.contents.Content.{Content}
use Rattle.provider_core.specs.Outcomes.{Outcome, changed_rows, outcome}
use Rattle.provider_core.specs.Rows.{row_named}
use Rattle.provider_core.specs.Stores.{LeavesNoMore, LeavesOr}
use Rattle.provider_core.specs.Stories.{rows_of, step}
use Rattle.provider_core.specs.declared.registry.Registry.{Ghosts as Registries}
use Rattle.provider_core.proofs.StoryLaws.{rows_follow_stories}
use Rattle.journal_core.specs.declared.journals.Journal.{Ghosts as Journals}
use Rattle.world_model.specs.Others.{Theirs, acts}
use Rattle.world_model.specs.Safe.{rows as world_rows}
use Rattle.world_model.specs.World.{World}
use Rattle.world_sim.specs.Acts.{Answers, FailsToAnswer, FailsToMake, IsExcusedTo, write_of, write_request}
use Rattle.world_sim.specs.GoingOn.{unknown_rows}
use Rattle.world_sim.specs.Running.{HoldsOneOf, IsSound, Mirrors}
use Rattle.world_sim.specs.Sides.{CountsWorldFault}
use Rattle.world_sim.specs.declared.reports.WorldFault.{WorldFault}
use Rattle.world_sim.specs.declared.reports.WorldFault.TheVariants.{Memory, Store}
use Rattle.world_sim.specs.declared.worlds.World.{World as Running}
use Rattle.world_sim.proofs.Reaching.{reaches}

excused_to : {R J : Type 0} (g : Registries R) (old new : Running R J) (fault : WorldFault) → CountsWorldFault (g.faults old.provider) (g.faults new.provider) fault → IsExcusedTo g old new fault
excused_to g old new Store counted = inr counted.1
excused_to g old new Memory counted = counted

module _ {R J : Type 0} (g : Registries R) (h : Journals J) (old : Running R J) (provider : R) where
  pub sound_old : (g.is_honest provider → g.is_honest old.provider) → IsSound g h (record old { provider = provider }) → IsSound g h old
  sound_old was sound = record { registry = was sound.registry; journal = sound.journal }

  pub unknown_now : (w : World) → Mirrors (unknown_rows g) h old w → Mirrors (unknown_rows g) h (record old { provider = provider }) w
  unknown_now w m = record {
    rows = λ never. absurd never;
    found = λ found never. absurd never;
    table = m.table;
    book = m.book;
    kept = m.kept;
    messages = m.messages;
    texts = m.texts;
    formed = m.formed;
  }

  -- the registry is read, and then written
  pub answers_theirs : (mid : R) (pending : Outcome) (request : Request) (status : ℕ)
      → (g.is_honest mid → g.is_honest old.provider) → (g.is_honest provider → g.is_honest mid)
      → (g.is_faithful mid → g.is_faithful old.provider)
      → (g.is_honest mid → g.is_faithful mid) → (g.is_honest provider → g.is_faithful mid → g.is_faithful provider)
      → (g.is_faithful mid → g.rows mid ≡ g.rows old.provider) → (g.is_faithful mid → pending ≡ outcome (g.rows old.provider) request)
      → (g.is_faithful provider → g.rows provider ≡ changed_rows (g.rows mid) pending.change)
      → ((found : List StoredRecord) → g.is_faithful provider → g.may_hold provider found → found ≡ g.rows provider)
      → status ≡ answer_status pending.answer
      → Answers g h old (record old { provider = provider }) request status
  answers_theirs mid pending request status was_old was_mid was_open opened stays same out done settled said = record {
    was = sound_old (λ honest. was_old (was_mid honest));
    stays_open = λ sound faithful. is_open_now sound.registry;
    is = λ sound w m. after sound.registry w m;
    was_open = λ sound. was_open (opened (was_mid sound.registry));
    among = λ sound w is alone. record {
      mirrors = after sound.registry w is.mirrors;
      base = is.base;
      reached = reaches w (Theirs request) alone tt is.reached;
    };
    answer = λ sound w m. said ∙ ap answer_status (ap (λ p. p.answer) (pending_same sound.registry w m) ∙ (rows_follow_stories w.entries request m.table).answer);
  }
    where
      is_open_now : g.is_honest provider → g.is_faithful provider
      is_open_now honest = stays honest (opened (was_mid honest))

      held_same : g.is_honest provider → (w : World) → Mirrors g h old w → g.rows old.provider ≡ rows_of w.entries
      held_same honest w m = m.rows (was_open (opened (was_mid honest)))

      pending_same : g.is_honest provider → (w : World) → Mirrors g h old w → pending ≡ outcome (rows_of w.entries) request
      pending_same honest w m = out (opened (was_mid honest)) ∙ ap (λ rows. outcome rows request) (held_same honest w m)

      rows_same : g.is_honest provider → (w : World) → Mirrors g h old w → changed_rows (g.rows mid) pending.change ≡ rows_of (step w.entries request).entries
      rows_same honest w m = ap (λ rows. changed_rows rows pending.change) (same (opened (was_mid honest)) ∙ held_same honest w m)
          ∙ ap (λ p. changed_rows (rows_of w.entries) p.change) (pending_same honest w m) ∙ (rows_follow_stories w.entries request m.table).rows

      after : g.is_honest provider → (w : World) → Mirrors g h old w → Mirrors g h (record old { provider = provider }) (acts w (Theirs request))
      after honest w m = record {
        rows = λ faithful. done faithful ∙ rows_same honest w m;
        found = λ found holds. settled found (is_open_now honest) holds ∙ done (is_open_now honest) ∙ rows_same honest w m;
        table = (rows_follow_stories w.entries request m.table).table;
        book = m.book;
        kept = m.kept;
        messages = m.messages;
        texts = m.texts;
        formed = m.formed;
      }

  -- the rows are as they were
  still_now : (w : World) → (g.is_faithful provider → g.rows provider ≡ world_rows w) → ((found : List StoredRecord) → g.may_hold provider found → found ≡ world_rows w)
      → Mirrors g h old w → Mirrors g h (record old { provider = provider }) w
  still_now w rows found m = record {
    rows = rows;
    found = found;
    table = m.table;
    book = m.book;
    kept = m.kept;
    messages = m.messages;
    texts = m.texts;
    formed = m.formed;
  }

  -- the registry wasn't written
  pub unmade : (made : World → World) (fault : WorldFault)
      → (g.is_honest provider → g.is_honest old.provider) → (g.is_faithful provider → g.is_faithful old.provider)
      → (g.is_faithful provider → g.rows provider ≡ g.rows old.provider)
      → (g.is_honest provider → LeavesNoMore (g.may_hold old.provider) (g.may_hold provider))
      → IsExcusedTo g old (record old { provider = provider }) fault
      → FailsToMake g h old (record old { provider = provider }) made fault
  unmade made fault was was_open same stop excused = record {
    was = sound_old was;
    is = λ sound known w m. still_now w (λ faithful. same faithful ∙ m.rows (was_open faithful)) (λ found holds. m.found found (stop sound.registry found holds)) m;
    leaves = λ sound w m. record {
      rows = λ found holds. inl (m.found found (stop sound.registry found holds));
      entries = λ found holds. inl (m.kept found holds);
    };
    rows_unknown = unknown_now;
    excused = excused;
  }

  -- the registry wasn't read
  pub theirs_unread : (request : Request) (fault : WorldFault)
      → (g.is_honest provider → g.is_honest old.provider) → (g.is_faithful provider → g.is_faithful old.provider)
      → (g.is_faithful provider → g.rows provider ≡ g.rows old.provider)
      → (g.is_honest provider → LeavesNoMore (g.may_hold old.provider) (g.may_hold provider))
      → IsExcusedTo g old (record old { provider = provider }) fault
      → FailsToAnswer g h old (record old { provider = provider }) request fault
  theirs_unread request fault was was_open same stop excused = unmade (λ w. acts w (Theirs request)) fault was was_open same stop excused

  -- the registry couldn't be read
  pub unread : (made : World → World) (fault : WorldFault)
      → (g.is_honest provider → g.is_honest old.provider) → (g.is_faithful provider → g.is_faithful old.provider)
      → (g.is_faithful provider → g.rows provider ≡ g.rows old.provider)
      → (g.is_honest provider → LeavesNoMore (g.may_hold old.provider) (g.may_hold provider))
      → CountsWorldFault (g.faults old.provider) (g.faults provider) fault
      → FailsToMake g h old (record old { provider = provider }) made fault
  unread made fault was was_open same stop counted = unmade made fault was was_open same stop (excused_to g old (record old { provider = provider }) fault counted)

  pub theirs_to_read : (request : Request) (fault : WorldFault)
      → (g.is_honest provider → g.is_honest old.provider) → (g.is_faithful provider → g.is_faithful old.provider)
      → (g.is_faithful provider → g.rows provider ≡ g.rows old.provider)
      → (g.is_honest provider → LeavesNoMore (g.may_hold old.provider) (g.may_hold provider))
      → CountsWorldFault (g.faults old.provider) (g.faults provider) fault
      → FailsToAnswer g h old (record old { provider = provider }) request fault
  theirs_to_read request fault was was_open same stop counted = unread (λ w. acts w (Theirs request)) fault was was_open same stop counted

  -- the registry was read, and its write failed
  pub theirs_to_write : (mid : R) (pending : Outcome) (request : Request) (fault : WorldFault)
      → (g.is_honest mid → g.is_honest old.provider) → (g.is_honest provider → g.is_honest mid)
      → (g.is_faithful mid → g.is_faithful old.provider) → (g.is_faithful mid → g.rows mid ≡ g.rows old.provider) → (g.is_faithful mid → pending ≡ outcome (g.rows old.provider) request)
      → (g.is_honest mid → LeavesNoMore (g.may_hold old.provider) (g.may_hold mid))
      → (g.is_honest provider → LeavesOr (g.may_hold mid) (g.may_hold provider) (λ found. g.is_faithful mid × (found ≡ changed_rows (g.rows mid) pending.change)))
      → (g.is_faithful provider → g.is_faithful mid) → (g.is_faithful provider → g.rows provider ≡ g.rows mid)
      → ((found : List StoredRecord) → g.is_faithful provider → g.may_hold provider found → found ≡ g.rows provider)
      → CountsWorldFault (g.faults old.provider) (g.faults provider) fault
      → FailsToAnswer g h old (record old { provider = provider }) request fault
  theirs_to_write mid pending request fault was_old was_mid was_open same out stop_mid stop mid_open unwritten settled counted = record {
    was = sound_old (λ honest. was_old (was_mid honest));
    is = λ sound known w m. still_now w (λ faithful. unwritten faithful ∙ held (mid_open faithful) w m)
        (λ found holds. settled found known holds ∙ unwritten known ∙ held (mid_open known) w m) m;
    leaves = λ sound w m. record {
      rows = λ found holds. elim (stop sound.registry found holds) [
        | inl was ↦ inl (m.found found (stop_mid (was_mid sound.registry) found was))
        | inr made ↦ inr (made.1 ∙ rows_same made.0 w m)
      ];
      entries = λ found holds. inl (m.kept found holds);
    };
    rows_unknown = unknown_now;
    excused = excused_to g old (record old { provider = provider }) fault counted;
  }
    where
      held : g.is_faithful mid → (w : World) → Mirrors g h old w → g.rows mid ≡ rows_of w.entries
      held faithful w m = same faithful ∙ m.rows (was_open faithful)

      rows_same : g.is_faithful mid → (w : World) → Mirrors g h old w → changed_rows (g.rows mid) pending.change ≡ rows_of (step w.entries request).entries
      rows_same faithful w m = ap (λ rows. changed_rows rows pending.change) (held faithful w m)
          ∙ ap (λ p. changed_rows (rows_of w.entries) p.change) (out faithful ∙ ap (λ rows. outcome rows request) (m.rows (was_open faithful)))
          ∙ (rows_follow_stories w.entries request m.table).rows

-- ---- what others write

-- the registry was looked at
pub record IsRead {R : Type 0} (g : Registries R) (before after : R) : Type 0 where
  pub honest : g.is_honest after → g.is_honest before
  pub was : g.is_faithful after → g.is_faithful before
  pub same : g.is_faithful after → g.rows after ≡ g.rows before
  pub opened : g.is_honest after → g.is_faithful after
  pub stop : g.is_honest after → LeavesNoMore (g.may_hold before) (g.may_hold after)
  pub counted : g.faults after ≡ g.faults before

module _ {R J : Type 0} (g : Registries R) (h : Journals J) (old : Running R J) (mid : R) (read : IsRead g old.provider mid) where
  pub looked : IsSound g h (record old { provider = mid }) → (w : World) → Mirrors g h old w → Mirrors g h (record old { provider = mid }) w
  looked sound w m = still_now g h old mid w (λ faithful. read.same faithful ∙ m.rows (read.was faithful)) (λ found holds. m.found found (read.stop sound.registry found holds)) m

  pub looked_excuse : (new : Running R J) (fault : WorldFault) → IsExcusedTo g (record old { provider = mid }) new fault → IsExcusedTo g old new fault
  looked_excuse new Memory same = same ∙ read.counted
  looked_excuse new Store (inl shut) = inl shut
  looked_excuse new Store (inr risen) = inr (subst (λ n. HasRisen n (g.faults new.provider)) read.counted risen)

  module _ (new : Running R J) (row : Option StoredRecord) (content : Content) (request : Request)
      (finds : g.is_faithful mid → row ≡ row_named (content_name content) (g.rows old.provider)) (is : request ≡ write_request row content) where
    the_request : IsSound g h (record old { provider = mid }) → request ≡ write_of (g.rows old.provider) content
    the_request sound = is ∙ ap (λ r. write_request r content) (finds (read.opened sound.registry))

    fails_theirs : (fault : WorldFault) → FailsToAnswer g h (record old { provider = mid }) new request fault → FailsToAnswer g h old new (write_of (g.rows old.provider) content) fault
    fails_theirs fault f = record {
      was = λ sound. sound_old g h old mid read.honest (f.was sound);
      is = λ sound known w m. f.is sound known w (looked (f.was sound) w m);
      leaves = λ sound w m. subst (λ r. HoldsOneOf g h new w (acts w (Theirs r))) (the_request (f.was sound)) (f.leaves sound w (looked (f.was sound) w m));
      rows_unknown = λ w m. f.rows_unknown w (unknown_now g h old mid w m);
      excused = looked_excuse new fault f.excused;
    }

    pub fails_told : (result : Result ℕ WorldFault) → IfErr result (FailsToAnswer g h (record old { provider = mid }) new request)
        → IfErr result (FailsToAnswer g h old new (write_of (g.rows old.provider) content))
    fails_told (Ok status) f = tt
    fails_told (Err fault) f = fails_theirs fault f
