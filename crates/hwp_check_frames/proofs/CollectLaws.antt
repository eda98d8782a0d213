-- What a collector makes of notes, one by one, and of a command.
use Rattle.std.proofs.Common.{◌≡◌, ℕ, ◌+◌, ◌<◌, ◌==◌, Bool, true, false, true≢false, ◌&&◌, List, [], ◌∷◌, ◌++◌, Option, Some, None, MatchBool, MatchOption, get_or, length, map, option_map, take, if◌then◌else◌, refl, sym, ap, ◌∙◌, subst}
use Rattle.std.proofs.lemmas.List.{length-set, map-append, take_more}
use Rattle.hwp_check_rules.specs.hwp_geom.declared.Frame.{Frame}
use Rattle.hwp_check_rules.specs.hwp_script_words.declared.Command.{Command}
use Rattle.hwp_check_rules.specs.hwp_script_words.declared.Command.TheVariants as commands
use Rattle.hwp_check_rules.specs.hwp_report_text.declared.Answer.{Answer}
use Rattle.hwp_check_rules.specs.hwp_report_text.declared.Answer.TheVariants as answers
use Rattle.hwp_check_rules.specs.hwp_law.Watched.{Watched, due, offlining, told, watched_after}
use Rattle.hwp_check_rules.proofs.of_hwp_law.NoteLaws.{offlining-append, told-more}
use Rattle.hwp_cec.specs.Ages.{CecEvent, Note, Round, live}
use Rattle.hwp_cec.specs.Counters.{Counters, StandsFor, answer, noted_in, noted_row, row_of}
use Rattle.hwp_cec.specs.declared.collector.Noted.{Noted}
use Rattle.hwp_cec.specs.declared.collector.Noted.TheVariants as noted
use Rattle.hwp_check_frames.specs.Collecting.{AreDue, AreTaken, IsBegun, IsGoneOn, IsNoted, IsRounded, IsWatching, Stands, begun_by, ends_round, fresh, if_goes, is_offline}
use Rattle.hwp_check_frames.specs.declared.collecting.Limits.{Limits}

offline-where : (threshold count : ℕ) → is_offline (answer threshold count) ≡ (count == threshold)
offline-where threshold count = by (count == threshold)
  where
    by : (b : Bool) → is_offline (if b then noted.Offline else noted.Counted count) ≡ b
    by true = refl
    by false = refl

-- one note
pub noted-once : (old new : Counters) (frame : Frame) (told_so : Noted) (goes : Bool) → new ≡ noted_in old frame.0
    → ((events : List CecEvent) → StandsFor events old → StandsFor (events ++ Note frame ∷ []) new)
    → ((events : List CecEvent) → StandsFor events old → told_so ≡ answer old.threshold (live old.threshold old.window events frame.0))
    → goes ≡ is_offline told_so → IsNoted old new frame goes
noted-once old new frame told_so goes counts stands live_is goes_is = record {
  many = ap (λ (c : Counters). length c.counts) counts ∙ length-set old.counts frame.0 (noted_row old.threshold (row_of old frame.0));
  goes_is = λ v s.
      goes_is
      ∙ (ap is_offline (live_is v.events s.stands)
      ∙ (offline-where old.threshold (live old.threshold old.window v.events frame.0)
      ∙ (ap (λ (t : ℕ). live t old.window v.events frame.0 == t) s.threshold ∙ ap (λ (w : ℕ). live v.threshold w v.events frame.0 == v.threshold) s.window)));
  stands = λ v s. record { threshold = ap (λ (c : Counters). c.threshold) counts ∙ s.threshold; window = ap (λ (c : Counters). c.window) counts ∙ s.window; stands = stands v.events s.stands };
}

-- some notes were taken, and one more
pub taken-more : (old now new : Counters) (notes frames more : List Frame) (i : ℕ) (d : Frame) (goes : Bool) → i < length notes → AreTaken old now (take i notes) frames → IsNoted now new (get_or notes i d) goes → more ≡ frames ++ if_goes goes (get_or notes i d)
    → AreTaken old new (take (i + 1) notes) more
taken-more old now new notes frames more i d goes within so next more_is = record {
  many = next.many ∙ so.many;
  frames_are = λ v s.
      more_is
      ∙ (ap (λ (l : List Frame). l ++ if_goes goes here) (so.frames_are v s)
      ∙ (ap (λ (b : Bool). offlining v front ++ if_goes b here) (next.goes_is (told (map Note front) v) (so.stands v s))
      ∙ (sym (offlining-append v front (here ∷ [])) ∙ ap (offlining v) (sym with-here))));
  stands = λ v s.
      subst (λ (w : Watched). Stands w new)
      (told-more (map Note front) (Note here ∷ []) v ∙ ap (λ (l : List CecEvent). told l v) (sym (map-append Note front (here ∷ []))) ∙ ap (λ (l : List Frame). told (map Note l) v) (sym with-here))
      (next.stands (told (map Note front) v) (so.stands v s));
}
  where
    here : Frame
    here = get_or notes i d

    front : List Frame
    front = take i notes

    with-here : take (i + 1) notes ≡ front ++ here ∷ []
    with-here = take_more notes i d within

-- the collector after a command, by whether it begins one and whether it ends a round
abbrev after_by : Option Limits → Bool → List Frame → Option Watched → Option Watched
after_by (Some limits) ends notes w = Some (fresh limits)
after_by None true notes w = option_map (told (map Note notes ++ Round ∷ [])) w
after_by None false notes w = option_map (told (map Note notes)) w

after-is : (command : Command) (given : Answer) (notes : List Frame) (w : Option Watched) → watched_after command given notes w ≡ after_by (begun_by command given) (ends_round command given) notes w
after-is (commands.Watch threshold window) answers.Done notes w = refl
after-is (commands.Scrub first last) (answers.Scrubbed n) notes w = refl
after-is _ _ notes w = refl

module _ (frames : ℕ) (command : Command) (given : Answer) (on after : Bool) (old now new : Counters) (notes list : List Frame) where
  -- what was found due is so by the law, and the collector after the command is the law's
  pub due-and-after : (w : Option Watched) → IsWatching frames w on old → AreDue on old now notes list → IsGoneOn command given on after now new
      → (list ≡ due w notes) × IsWatching frames (watched_after command given notes w) after new
  due-and-after w watching taken gone = (due-is w watching on refl taken, subst (λ (x : Option Watched). IsWatching frames x after new) (sym (after-is command given notes w)) (gone-on w watching (begun_by command given) (ends_round command given) gone))
    where
      due-is : (w : Option Watched) → IsWatching frames w on old → (b : Bool) → on ≡ b → AreDue b old now notes list → list ≡ due w notes
      due-is None watching true is taken = absurd (true≢false (sym is ∙ watching.is))
      due-is None watching false is taken = taken.0
      due-is (Some v) watching true is taken = taken.frames_are v watching.is.1
      due-is (Some v) watching false is taken = absurd (true≢false (sym watching.is.0 ∙ is))

      many-now : (b : Bool) → AreDue b old now notes list → length now.counts ≡ length old.counts
      many-now true taken = taken.many
      many-now false taken = ap (λ (c : Counters). length c.counts) taken.1

      stands-now : (w : Option Watched) → IsWatching frames w on old → (b : Bool) → on ≡ b → AreDue b old now notes list → IsWatching frames (option_map (told (map Note notes)) w) on now
      stands-now None watching b is taken = record { many = many-now b taken ∙ watching.many; is = watching.is }
      stands-now (Some v) watching true is taken = record { many = many-now true taken ∙ watching.many; is = (watching.is.0, taken.stands v watching.is.1) }
      stands-now (Some v) watching false is taken = absurd (true≢false (sym watching.is.0 ∙ is))

      watched-now : IsWatching frames (option_map (told (map Note notes)) w) on now
      watched-now = stands-now w watching on refl taken

      gone-on : (w : Option Watched) → IsWatching frames w on old → (begins : Option Limits) (ends : Bool)
          → MatchOption begins ((after ≡ on) × MatchBool (on && ends) (IsRounded now new) (new ≡ now)) (λ (limits : Limits). (after ≡ true) × IsBegun limits now new)
          → IsWatching frames (after_by begins ends notes w) after new
      gone-on w before (Some limits) ends h = record { many = h.1.many ∙ (many-now on taken ∙ watching.many); is = (h.0, h.1.stands) }
      gone-on w before None ends h = by w (stands-now w before on refl taken) ends on refl h
        where
          by : (w : Option Watched) → IsWatching frames (option_map (told (map Note notes)) w) on now → (ends b : Bool) → on ≡ b → (after ≡ on) × MatchBool (b && ends) (IsRounded now new) (new ≡ now) → IsWatching frames (after_by None ends notes w) after new
          by None s true true is h = absurd (true≢false (sym is ∙ s.is))
          by None s true false is h = record { many = ap (λ (c : Counters). length c.counts) h.1 ∙ s.many; is = h.0 ∙ is }
          by None s false true is h = absurd (true≢false (sym is ∙ s.is))
          by None s false false is h = record { many = ap (λ (c : Counters). length c.counts) h.1 ∙ s.many; is = h.0 ∙ is }
          by (Some v) s true true is h = record {
            many = h.1.many ∙ s.many;
            is = (h.0 ∙ is, subst (λ (x : Watched). Stands x new) (told-more (map Note notes) (Round ∷ []) v) (h.1.stands (told (map Note notes) v) s.is.1));
          }
          by (Some v) s false true is h = record { many = ap (λ (c : Counters). length c.counts) h.1 ∙ s.many; is = (h.0 ∙ is, subst (Stands (told (map Note notes) v)) (sym h.1) s.is.1) }
          by (Some v) s ends false is h = absurd (true≢false (sym s.is.0 ∙ is))

-- the same notes
pub due-same : (on : Bool) (old new : Counters) (seen notes frames : List Frame) → seen ≡ notes → AreDue on old new seen frames → AreDue on old new notes frames
due-same on old new seen notes frames same found = subst (λ (l : List Frame). AreDue on old new l frames) same found
