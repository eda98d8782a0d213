-- What each processor made of a run, in whatever order they moved.
use Rattle.std.specs.Prelude.{◌≡◌, ℕ, ◌==◌, false, List, Some, filter, length, map, slice_get}
use Rattle.hwp_core_rule.specs.hwp_geom.declared.Frame.{Frame}
use Rattle.hwp_core_rule.specs.hwp_geom.declared.Layout.{Layout}
use Rattle.hwp_core_rule.specs.declared.Rec.{Rec}
use Rattle.hwp_core_rule.specs.declared.State.{State}
use Rattle.hwp_core_rule.specs.Lists.{EachMember}
use Rattle.hwp_core_rule.specs.Moves.{Run}
use Rattle.hwp_core_rule.specs.Rule.{Holds}
use Rattle.hwp_core_rule.specs.Ranks.{Pending, is_refused, words_at}
use Rattle.hwp_core_rule.specs.Turns.{Member}
use Rattle.hwp_threads.specs.Own.{IsOwnRun, Standing, Turned, made_of}

-- the moves of one processor, among those of all
abbrev pub part : ℕ → List (ℕ × Rec) → List (ℕ × Rec)
part cpu moves = filter (λ (x : ℕ × Rec). x.0 == cpu) moves

-- what a processor made of a run: its turns, the newest first, from where to where
pub record Own (S : Type 0) : Type 0 where
  pub from : Standing S
  pub turns : List (Turned S)
  pub to : Standing S

abbrev pub froms : {S : Type 0} → List (Own S) → List (Standing S)
froms {S} owns = map (λ (o : Own S). o.from) owns

abbrev pub tos : {S : Type 0} → List (Own S) → List (Standing S)
tos {S} owns = map (λ (o : Own S). o.to) owns

-- its moves of the run are those of its turns, and none of them was refused memory
pub record IsPart {S : Type 0} (m : Member S) (layout : Layout) (moves : List (ℕ × Rec)) (cpu : ℕ) (o : Own S) : Type 0 where
  pub run : IsOwnRun m layout o.from o.turns o.to
  pub moves_are : part cpu moves ≡ map (λ (t : Turned S). (cpu, made_of m layout t)) o.turns
  pub going : EachMember (λ (t : Turned S). is_refused t.turn ≡ false) o.turns

-- each processor of the board has its part of the run
pub record AreParts {S : Type 0} (m : Member S) (layout : Layout) (a : State) (moves : List (ℕ × Rec)) (owns : List (Own S)) : Type 0 where
  pub count : length owns ≡ length a.views
  pub each : (cpu : ℕ) (o : Own S) → slice_get owns cpu ≡ Some o → IsPart m layout moves cpu o

-- a failure is the claim of a processor's task
pub record IsClaim {S : Type 0} (m : Member S) (all : List (Standing S)) (frame : Frame) (cycle : ℕ) : Type 0 where
  pub cpu : ℕ
  pub standing : Standing S
  pub there : slice_get all cpu ≡ Some standing
  pub claims : m.claims standing.task ≡ Some (frame, cycle)

-- The frame rule holds of a board on which the processors stand so, and each failure that isn't ended is the claim of one.
pub record Stands {S : Type 0} (m : Member S) (layout : Layout) (s : State) (all : List (Standing S)) : Type 0 where
  pub rule : Holds layout s
  pub views : (cpu : ℕ) (x : Standing S) → slice_get all cpu ≡ Some x → slice_get s.views cpu ≡ Some x.view
  pub claimed : (frame : Frame) (cycle : ℕ) → Pending (words_at layout s) frame cycle → IsClaim m all frame cycle

-- a point of a run, after the earlier ones of its moves: each processor has its part of those, and stands so there
pub record Point {S : Type 0} (m : Member S) (layout : Layout) (a : State) (earlier : List (ℕ × Rec)) (owns : List (Own S)) : Type 0 where
  pub state : State
  pub run : Run layout a earlier state
  pub owns_then : List (Own S)
  pub parts : AreParts m layout a earlier owns_then
  pub froms_are : froms owns_then ≡ froms owns
  pub stands : Stands m layout state (tos owns_then)
