-- At opening no failure is open, so that none has to be claimed.
use Rattle.std.proofs.Common.{◌≡◌, ℕ, ◌<◌, ◌≤◌, ◌==◌, ◌⊎◌, inl, inr, true, false, List, map, length, refl, sym, ap, ◌∙◌}
use Rattle.std.specs.Prelude.{slice_index}
use Rattle.std.proofs.lemmas.Bool.{both_ways, cases_lt}
use Rattle.std.proofs.lemmas.Option.{slice_get-get_or}
use Rattle.std.proofs.lemmas.List.{get_or_past}
use Rattle.hwp_script_words.specs.hwp_geom.declared.Cpu.{Cpu}
use Rattle.hwp_script_words.specs.hwp_geom.declared.Frame.{Frame}
use Rattle.hwp_script_words.specs.hwp_geom.declared.Layout.{Layout}
use Rattle.hwp_script_words.specs.hwp_geom.Layout.{IsSound}
use Rattle.hwp_core_rule.specs.hwp_words.Frames.{is_poisoned}
use Rattle.hwp_core_rule.specs.Opening.{opening, opening_frame}
use Rattle.hwp_core_rule.proofs.WordsOpen.{opening-frames, frame-opened}
use Rattle.hwp_core_rule.specs.Boards.{view_of}
use Rattle.hwp_core_rule.specs.Ranks.{Pending, words_at}
use Rattle.hwp_core_rule.specs.Turns.{Member}
use Rattle.hwp_plain.specs.Order.{IsAt, cpu_of, running}
use Rattle.hwp_plain.specs.Ready.{IsCrew}

opening-unpending : (layout : Layout) → IsSound layout → (frame : Frame) (cycle : ℕ) → Pending (words_at layout (opening layout)) frame cycle → ⊥
opening-unpending layout sound frame cycle pending =
    both_ways true (sym pending.poisoned ∙ ap (λ (l : List ℕ). is_poisoned (slice_index l frame.0)) (opening-frames layout sound) ∙ bare (cases_lt frame.0 (length frames))) refl
  where
    frames : List ℕ
    frames = map opening_frame layout.kernel

    bare : (frame.0 < length frames) ⊎ (length frames ≤ frame.0) → is_poisoned (slice_index frames frame.0) ≡ false
    bare (inl within) = let opened = frame-opened layout frame.0 _ (slice_get-get_or frames frame.0 0 within) in ap (λ (n : ℕ). n == 1) opened.2.poison
    bare (inr past) = ap is_poisoned (get_or_past frames frame.0 0 past)

-- so tasks that fit the opening are a crew
pub opening-crew : {S : Type 0} (m : Member S) (layout : Layout) (seat : Cpu → ℕ) (tasks : List S) → IsSound layout → length tasks ≡ layout.cpus
    → ((cpu : ℕ) (s : S) → IsAt tasks cpu s → ((m.who s).cpu ≡ cpu_of cpu) × m.fits layout (view_of (opening layout) (seat (cpu_of cpu))) s) → IsCrew m (running layout seat tasks (opening layout))
opening-crew m layout seat tasks sound count fit = record {
  count = count;
  own = λ cpu s at. (fit cpu s at).0;
  fits = λ cpu s at. (fit cpu s at).1;
  claimed = λ frame cycle pending. absurd (opening-unpending layout sound frame cycle pending);
}
