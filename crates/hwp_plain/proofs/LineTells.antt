-- The line that is noted of a turn tells it, and a turn without a line made no step.
use Rattle.std.proofs.Common.{◌≡◌, ℕ, ◌<◌, List, ◌∷◌, Option, Some, None, length, slice_set, refl, sym, ap, ◌∙◌, subst, arith}
use Rattle.std.proofs.lemmas.List.{get_or-set_same}
use Rattle.std.proofs.lemmas.Option.{none-some, same_Some}
use Rattle.hwp_core_rule.specs.hwp_geom.declared.Kind.{Kind}
use Rattle.hwp_core_rule.specs.hwp_geom.declared.Layout.{Layout}
use Rattle.hwp_core_rule.specs.hwp_geom.declared.Who.{Who}
use Rattle.hwp_core_rule.specs.declared.SharedWord.{SharedWord}
use Rattle.hwp_core_rule.specs.declared.Log.{Log}
use Rattle.hwp_core_rule.specs.declared.Rec.{Rec}
use Rattle.hwp_core_rule.specs.declared.State.{State}
use Rattle.hwp_core_rule.specs.declared.Step.{Step}
use Rattle.hwp_core_rule.specs.Moves.{Move}
use Rattle.hwp_core_rule.specs.Steps.{kind_of, place_of, word_after}
use Rattle.hwp_core_rule.specs.Words.{IsPlace, index, read, size, words_of}
use Rattle.hwp_core_rule.proofs.WordsByKind.{index-within, words-read}
use Rattle.hwp_core_rule.specs.declared.Turn.{Turn}
use Rattle.hwp_core_rule.specs.Boards.{Played, TakesTurn, TakesTurnBy}
use Rattle.hwp_core_rule.specs.Calls.{logs, rec_of}
use Rattle.hwp_core_rule.specs.Turns.{Member}
use Rattle.hwp_plain.specs.declared.trace_line.TraceLine.{TraceLine}
use Rattle.hwp_plain.specs.declared.notes.Sight.{Sight}
use Rattle.hwp_plain.specs.Notes.{Notes, Sees, SeesStep, line_now, line_seen}
use Rattle.hwp_plain.specs.Traced.{AreTold, IsTraced, Tells}
use Rattle.hwp_plain.proofs.StepKinds.{HasKind, has-kind}

-- a word that was written is read again
read-written : (layout : Layout) (words : List ℕ) (place : SharedWord) (word : ℕ) → length words ≡ size layout → IsPlace layout place
    → read place (words_of layout (slice_set words (index layout place) word)) ≡ word
read-written layout words place word whole inside =
    let within : index layout place < size layout = index-within layout place inside in
    let less : index layout place < length words = omega (arith, whole, within) in
    words-read layout (slice_set words (index layout place) word) place inside ∙ get_or-set_same words (index layout place) word 0 less

-- a turn was made, or none was: what was noted of it
pub record NotedTurn (was now : List Played) (line : Option TraceLine) : Type 0 where
  pub none : line ≡ None → now ≡ was
  pub some : (told : TraceLine) → line ≡ Some told → (p : Played) × (now ≡ p ∷ was) × Tells p told

-- the line of a step, and the turn that it tells
abbrev pub sight_of : Layout → Who → Step → State → Sight
sight_of layout who step a = record { who = who; place = place_of step; before = read (place_of step) (words_of layout a.words) }

abbrev pub played_by : ℕ → Rec → Turn → Played
played_by seat made turn = record { seat = seat; made = made; turn = turn }

line-tells : (layout : Layout) (seat : ℕ) (who : Who) (step : Step) (content : Option Log) (found : ℕ) (kind : Kind) (turn : Turn) (a b : State)
    → length a.words ≡ size layout → IsPlace layout (place_of step) → kind_of step ≡ Some kind → Move layout seat (record { who = who; step = step; found = found; content = content }) a b
    → Tells (played_by seat (record { who = who; step = step; found = found; content = content }) turn) (line_now layout b (sight_of layout who step a) turn kind)
line-tells layout seat who step content found kind turn a b whole inside is move = record {
  who = refl;
  kind = is;
  place = refl;
  before = words-read layout a.words (place_of step) inside ∙ sym move.met;
  after = ap (λ (s : State). read (place_of step) (words_of layout s.words)) move.next ∙ read-written layout a.words (place_of step) (word_after step found) whole inside;
  turn = refl;
}

pub noted-turn : {S : Type 0} (m : Member S) (layout : Layout) (seat : ℕ) (planned : Option Step) (a b : State) (was now : List Played) (before after : S) (turn : Turn) (kind : Option Kind) (seen : Option Sight)
    → length a.words ≡ size layout → TakesTurnBy m layout seat planned a b was now before after (turn, kind) → Sees layout a (m.who before) planned seen → NotedTurn was now (line_seen layout b seen turn kind)
noted-turn m layout seat None a b was now before after turn kind seen whole takes sees = record {
  none = λ is. takes.log;
  some = λ told is. absurd (none-some told (sym (ap (λ (s : Option Sight). line_seen layout b s turn kind) sees) ∙ is));
}
noted-turn m layout seat (Some step) a b was now before after turn kind seen whole takes sees = record {
  none = λ is. absurd (none-some (line_now layout b (sight_of layout (m.who before) step a) turn has.kind) (sym is ∙ seen-line));
  some = λ told is. (
    played_by seat (rec_of layout (m.who before) step (logs (m.put before)) takes.found takes.got) turn,
    takes.logged,
    subst (Tells (played_by seat (rec_of layout (m.who before) step (logs (m.put before)) takes.found takes.got) turn)) (same_Some (line_now layout b (sight_of layout (m.who before) step a) turn has.kind) told (sym seen-line ∙ is))
        (line-tells layout seat (m.who before) step (rec_of layout (m.who before) step (logs (m.put before)) takes.found takes.got).content takes.found has.kind turn a b whole sees.within has.is takes.move),
  );
}
  where
    has : HasKind step
    has = has-kind layout (m.who before) step (rec_of layout (m.who before) step (logs (m.put before)) takes.found takes.got).content takes.move.view takes.move.asks.kind

    seen-line : line_seen layout b seen turn kind ≡ Some (line_now layout b (sight_of layout (m.who before) step a) turn has.kind)
    seen-line = ap (λ (s : Option Sight). line_seen layout b s turn kind) sees.seen_is ∙ ap (line_seen layout b (Some (sight_of layout (m.who before) step a)) turn) (takes.kind ∙ has.is)

-- what is seen of the step that comes
pub sees-step : (layout : Layout) (state : State) (who : Who) (plan : Option Step) (step : Step) (seen : Option Sight) → plan ≡ Some step → SeesStep layout state who step seen → Sees layout state who plan seen
sees-step layout state who plan step seen is sees = subst (λ (p : Option Step). Sees layout state who p seen) (sym is) sees

-- the lines, with what was noted of a turn, tell the log with that turn
pub traced-turn : (was now : List Played) (line : Option TraceLine) (lines new : Option (List TraceLine)) → NotedTurn was now line → Notes lines line new → IsTraced was lines → IsTraced now new
traced-turn was now None lines new noted notes traced = λ told is. subst (λ (log : List Played). AreTold log told) (sym (noted.none refl)) (traced told (sym notes ∙ is))
traced-turn was now (Some line) lines None noted notes traced = λ told is. absurd (none-some told is)
traced-turn was now (Some line) lines (Some all) noted notes traced = λ told is.
    let turn = noted.some line refl in
    subst (λ (log : List Played). AreTold log told) (sym turn.1)
    (notes.earlier, line, sym (same_Some all told is) ∙ notes.now_is, turn.2, traced notes.earlier notes.were)

-- one turn of a board that notes it
pub turn-traced : {S : Type 0} (m : Member S) (layout : Layout) (seat : ℕ) (a b : State) (was now : List Played) (before after : S) (turn : Turn) (kind : Option Kind) (seen : Option Sight) (line : Option TraceLine) (lines new : Option (List TraceLine))
    → length a.words ≡ size layout → TakesTurn m layout seat a b was now before after (turn, kind) → Sees layout a (m.who before) (m.plan before) seen → line ≡ line_seen layout b seen turn kind → Notes lines line new → IsTraced was lines
    → IsTraced now new
turn-traced m layout seat a b was now before after turn kind seen line lines new whole takes sees line-is notes traced =
    traced-turn was now line lines new (subst (NotedTurn was now) (sym line-is) (noted-turn m layout seat (m.plan before) a b was now before after turn kind seen whole takes sees)) notes traced
