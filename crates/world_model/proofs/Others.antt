-- Without others, the laws of all runs are those among others.
use Rattle.std.proofs.Common.{◌≡◌, List, [], ◌∷◌, map, refl}
use Rattle.world_model.specs.World.{World, Event, happens, run}
use Rattle.world_model.specs.Safe.{Safe, Headline}
use Rattle.world_model.specs.Invariant.{all_names}
use Rattle.world_model.specs.Others.{Ours, run_among, KeepsApart, HeadlineAmong, SafeAmong, WithoutOthers}
use Rattle.world_model.proofs.Invariant.{all_of_ours}

runs : (w : World) (events : List Event) → run_among w (map Ours events) ≡ run w events
runs w [] = refl
runs w (event ∷ events) = runs (happens w event) events

apart : (events : List Event) → KeepsApart all_names (map Ours events)
apart [] = tt
apart (event ∷ events) = (all_of_ours event, apart events)

of_all : (early late : World) → HeadlineAmong all_names early late → Headline early late
of_all early late h = record {
  one_per_name = h.one_per_name;
  its_image = λ s has. h.its_image s (has, refl);
  never_back = λ s has. h.never_back s (has, refl);
  reached = h.reached;
}

for_all : (early late : World) → Headline early late → HeadlineAmong all_names early late
for_all early late h = record {
  one_per_name = h.one_per_name;
  its_image = λ s holds. h.its_image s holds.0;
  never_back = λ s holds. h.never_back s holds.0;
  reached = h.reached;
}

safe_of_all : (w : World) → SafeAmong all_names w → Safe w
safe_of_all w safe = record {
  rows_rise = safe.rows_rise;
  one_each = safe.one_each;
  stories_rise = λ e has. safe.stories_rise e has refl;
  images = λ e content has in_story. safe.images e content has refl in_story;
  wanted = safe.wanted;
  known = safe.known;
  leavers = safe.leavers;
}

safe_for_all : (w : World) → Safe w → SafeAmong all_names w
safe_for_all w safe = record {
  rows_rise = safe.rows_rise;
  one_each = safe.one_each;
  stories_rise = λ e has mine. safe.stories_rise e has;
  images = λ e content has mine in_story. safe.images e content has in_story;
  wanted = safe.wanted;
  known = safe.known;
  leavers = safe.leavers;
}

pub without_others : WithoutOthers
without_others = record {
  runs = runs;
  apart = apart;
  headline = λ early late. (of_all early late, for_all early late);
  safe = λ w. (safe_of_all w, safe_for_all w);
}
