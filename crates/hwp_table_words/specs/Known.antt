-- What a seat of the table knows.
use Rattle.std.specs.Prelude.{ℕ, ◌==◌, not, cond, List, [], ◌∷◌, ◌++◌, Option, Some, None, filter, map, option_map, slice_set}
use Rattle.std.specs.List.{sum_by}
use Rattle.std.specs.Int.{from_bool}
use Rattle.hwp_core_rule.specs.hwp_geom.declared.Layout.{Layout}
use Rattle.hwp_core_rule.specs.declared.Rec.{Rec}
use Rattle.hwp_core_rule.specs.declared.View.{View}
use Rattle.hwp_core_rule.specs.Lists.{Homes}
use Rattle.hwp_core_rule.specs.Opening.{below, opening_homes, opening_view, opening_words}
use Rattle.hwp_core_rule.specs.SlotMoves.{homes_after}
use Rattle.hwp_core_rule.specs.Steps.{place_of, word_after}
use Rattle.hwp_core_rule.specs.Views.{view_after, without}
use Rattle.hwp_core_rule.specs.Words.{index}
use Rattle.hwp_table_words.specs.tlb.Caching.{Caching, forgotten, idle_caching, joined_caching}

-- What the table is: all words and all slots at home, in the order of the frame rule, and the moves that led to them, the
-- newest first.
pub record Whole : Type 0 where
  pub words : List ℕ
  pub homes : Homes
  pub log : List (ℕ × Rec)

-- The processors whose view of the frame rule the seat has, each with that view; the moves that these processors made, the
-- newest first; the processors whose right to make steps it has; and, with all rights only, what the table is.
pub record Known : Type 0 where
  pub mines : List (ℕ × View)
  pub own : List (ℕ × Rec)
  pub rights : List ℕ
  pub whole : Option Whole

-- how often the number is in the list
abbrev pub times : ℕ → List ℕ → ℕ
times n list = sum_by (λ (m : ℕ). from_bool (m == n)) list

-- how often the processor's view is
abbrev pub views_for : ℕ → List (ℕ × View) → ℕ
views_for c mines = sum_by (λ (x : ℕ × View). from_bool (x.0 == c)) mines

abbrev pub less : ℕ → List ℕ → List ℕ
less c rights = without (λ (n : ℕ). n == c) rights

-- the moves of one processor
abbrev pub moves_by : ℕ → List (ℕ × Rec) → List (ℕ × Rec)
moves_by c moves = filter (λ (x : ℕ × Rec). x.0 == c) moves

-- a seat that has nothing
abbrev pub idle : Known
idle = record { mines = []; own = []; rights = []; whole = None }

-- what the opening seat knows: all there is
abbrev pub first_known : Layout → Known
first_known layout = record {
  mines = map (λ (c : ℕ). (c, opening_view c)) (below layout.cpus);
  own = [];
  rights = below layout.cpus;
  whole = Some (record { words = opening_words layout; homes = opening_homes layout; log = [] });
}

-- what is known after a step of the processor's seat
abbrev pub mine_after : Layout → ℕ → Rec → ℕ × View → ℕ × View
mine_after layout c r x = (x.0, cond (x.0 == c) (view_after layout r x.1) x.1)

abbrev pub whole_after : Layout → ℕ → Rec → Whole → Whole
whole_after layout c r w = record {
  words = slice_set w.words (index layout (place_of r.step)) (word_after r.step r.found);
  homes = homes_after layout r.step r.found r.content w.homes;
  log = (c, r) ∷ w.log;
}

abbrev pub known_after : Layout → ℕ → Rec → Known → Known
known_after layout c r v = record {
  mines = map (mine_after layout c r) v.mines;
  own = (c, r) ∷ v.own;
  rights = v.rights;
  whole = option_map (whole_after layout c r) v.whole;
}

-- the rights go off on a note, with the whole; the views stay, and the moves
abbrev pub let_go : Known → Known
let_go v = record { mines = v.mines; own = v.own; rights = []; whole = None }

abbrev pub note : Known → Known
note v = record { mines = []; own = []; rights = v.rights; whole = v.whole }

-- what a new seat has of a processor, its view, its moves and its right, and what is left
abbrev pub dealt : ℕ → Known → Known
dealt c v = record {
  mines = filter (λ (x : ℕ × View). x.0 == c) v.mines;
  own = moves_by c v.own;
  rights = filter (λ (n : ℕ). n == c) v.rights;
  whole = None;
}

abbrev pub kept : ℕ → Known → Known
kept c v = record {
  mines = filter (λ (x : ℕ × View). not (x.0 == c)) v.mines;
  own = filter (λ (x : ℕ × Rec). not (x.0 == c)) v.own;
  rights = filter (λ (n : ℕ). not (n == c)) v.rights;
  whole = None;
}

-- the whole, where one of two knows it
abbrev pub either_whole : Option Whole → Option Whole → Option Whole
either_whole None w = w
either_whole (Some v) w = Some v

-- all that two seats have
abbrev pub joined : Known → Known → Known
joined v w = record { mines = v.mines ++ w.mines; own = v.own ++ w.own; rights = v.rights ++ w.rights; whole = either_whole v.whole w.whole }

-- the same where the other is a note, which has no view
abbrev pub with_note : Known → Known → Known
with_note v w = record { mines = v.mines; own = v.own ++ w.own; rights = v.rights ++ w.rights; whole = either_whole v.whole w.whole }

-- what a seat knows, and beside it what it knows of the translation caches
pub record Knowing : Type 0 where
  pub known : Known
  pub caching : Caching

-- it knows nothing of the caches
abbrev pub idling : Known → Knowing
idling v = record { known = v; caching = idle_caching }

abbrev pub first_knowing : Layout → Knowing
first_knowing layout = idling (first_known layout)

-- it forgets what it listed of the caches
abbrev pub forgetting : Known → Caching → Knowing
forgetting v k = record { known = v; caching = forgotten k }

-- all that two seats have
abbrev pub joining : Knowing → Knowing → Knowing
joining v w = record { known = joined v.known w.known; caching = joined_caching v.caching w.caching }
