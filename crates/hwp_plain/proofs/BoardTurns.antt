-- A turn of a task on the plain board.
use Rattle.std.proofs.Common.{◌≡◌, ℕ, true, false, cond, List, Option, Some, None, sym, ap, subst}
use Rattle.hwp_core_rule.specs.hwp_geom.declared.Cpu.{Cpu}
use Rattle.hwp_core_rule.specs.hwp_geom.declared.Kind.{Kind}
use Rattle.hwp_core_rule.specs.hwp_geom.declared.Layout.{Layout}
use Rattle.hwp_core_rule.specs.declared.Rec.{Rec}
use Rattle.hwp_core_rule.specs.declared.Step.{Step}
use Rattle.hwp_core_rule.specs.declared.Turn.{Turn}
use Rattle.hwp_core_rule.specs.Boards.{AreSeated, TakesTurn, TakesTurnBy}
use Rattle.hwp_core_rule.specs.Turns.{Advances, AdvancesBy, Member}
use Rattle.hwp_plain.specs.declared.slot.Slot.{Slot}
use Rattle.hwp_plain.specs.declared.trail.Trail.{Trail}
use Rattle.hwp_plain.specs.Boards.{Board, Moves, own_view, state_of, with_turn}
use Rattle.hwp_plain.specs.Trails.{views_of}
use Rattle.hwp_plain.proofs.TrailViews.{views-are, view-there}

-- each processor has the seat of its number
pub seated : (layout : Layout) (words : List ℕ) (slots : List Slot) (trail : Trail) → AreSeated layout (state_of layout words slots trail) (λ (cpu : Cpu). cpu.0)
seated layout words slots trail = record {
  there = λ cpu less. view-there layout (views_of layout trail) (views-are layout trail) cpu.0 less;
  own = (views-are layout trail).own;
  apart = λ c d first second same i. record { 0 = same i };
}

-- the board on which the processor can make a step
abbrev pub begun : Board → Cpu → Board
begun old cpu = record old { seat = cpu.0; ready = true; made = None }

-- and once the turn is told
abbrev pub ended : Board → Turn → Board
ended mid turn = record mid { log = cond mid.ready mid.log (with_turn turn mid.log); ready = false }

turn-made : {S : Type 0} (m : Member S) (old mid : Board) (cpu : Cpu) (planned : Option Step) (before after : S) (turn : Turn)
    → AdvancesBy m old.layout planned (own_view (begun old cpu)) (own_view mid) (λ (r : Rec). Moves (begun old cpu) r mid) (mid ≡ begun old cpu) before after turn
    → TakesTurnBy m old.layout cpu.0 planned old.state (ended mid turn).state old.log (ended mid turn).log before after (turn, (ended mid turn).made)
turn-made m old mid cpu None before after turn made = record {
  board = ap (λ (b : Board). b.state) made.board;
  log = λ i. cond (made.board i).ready (made.board i).log (with_turn turn (made.board i).log);
  task = made.task;
  finished = λ i. (made.finished i, (made.board i).made);
}
turn-made m old mid cpu (Some step) before after turn made = record {
  found = made.found;
  got = made.got;
  move = made.moved.move;
  brings = made.steps.brings;
  logged = λ i. cond (made.moved.next i).ready (made.moved.next i).log (with_turn turn (made.moved.next i).log);
  follows = made.follows;
  kind = ap (λ (b : Board). b.made) made.moved.next;
}

pub takes-turn : {S : Type 0} (m : Member S) (old start mid end : Board) (cpu : Cpu) (before after : S) (turn : Turn) (kind : Option Kind) → start ≡ begun old cpu → end ≡ ended mid turn → kind ≡ end.made
    → Advances m start.layout (own_view start) (own_view mid) (λ (r : Rec). Moves start r mid) (mid ≡ start) before after turn
    → TakesTurn m old.layout cpu.0 old.state end.state old.log end.log before after (turn, kind)
takes-turn m old start mid end cpu before after turn kind start-is end-is kind-is made =
    subst (λ (k : Option Kind). TakesTurn m old.layout cpu.0 old.state end.state old.log end.log before after (turn, k)) (sym kind-is)
    (subst (λ (b : Board). TakesTurn m old.layout cpu.0 old.state b.state old.log b.log before after (turn, b.made)) (sym end-is)
    (turn-made m old mid cpu (m.plan before) before after turn
    (subst (λ (b : Board). Advances m b.layout (own_view b) (own_view mid) (λ (r : Rec). Moves b r mid) (mid ≡ b) before after turn) start-is made)))
