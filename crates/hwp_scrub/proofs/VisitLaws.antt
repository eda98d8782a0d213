-- Laws of the frames that a scrub went over: there is one more of them, and what is known of them stays.
use Rattle.std.proofs.Common.{◌≡◌, ℕ, ◌+◌, ◌||◌, Bool, false, List, [], ◌∷◌, ◌++◌, Option, Some, None, length, slice_index_or, append-nil, refl, ap, ◌∙◌, subst, arith}
use Rattle.std.proofs.lemmas.List.{length-append, length-set}
use Rattle.std.proofs.lemmas.List.Concat.{flat_map-append}
use Rattle.std.proofs.lemmas.List.Folds.{list_any-append}
use Rattle.std.proofs.lemmas.Option.{get_or_from_slice_get}
use Rattle.hwp_claim.specs.hwp_geom.declared.Frame.{Frame}
use Rattle.hwp_claim.specs.hwp_geom.declared.Layout.{Layout}
use Rattle.hwp_claim.specs.hwp_geom.declared.Who.{Who}
use Rattle.hwp_claim.specs.hwp_banks.declared.Event.{Event}
use Rattle.hwp_claim.specs.hwp_banks.declared.Origin.TheVariants as origins
use Rattle.hwp_claim.specs.hwp_banks.Events.{own_event}
use Rattle.hwp_claim.specs.hwp_banks.Logged.{logged, without_over}
use Rattle.hwp_claim.specs.hwp_core_rule.declared.SharedWord.{SharedWord}
use Rattle.hwp_claim.specs.hwp_core_rule.declared.SharedWord.TheVariants as places
use Rattle.hwp_claim.specs.hwp_core_rule.declared.View.{View}
use Rattle.hwp_claim.proofs.of_hwp_core_rule.Lists.{set_here}
use Rattle.hwp_claim.specs.hwp_core_rule.Known.{Saw}
use Rattle.hwp_claim.specs.hwp_report_text.Acts.{is_panic, is_stopping}
use Rattle.hwp_claim.specs.hwp_banks.Banks.{Banks, empty_banks}
use Rattle.hwp_claim.specs.hwp_severity.Handling.{has_stop}
use Rattle.hwp_claim.specs.declared.EventOutcome.{EventOutcome}
use Rattle.hwp_claim.specs.Told.{halts}
use Rattle.hwp_claim.proofs.FailureKeeps.{Stay, told-stays}
use Rattle.hwp_scrub.specs.Scrubs.{kept_line, kept_lines}
use Rattle.hwp_scrub.specs.Visits.{AreBanks, AreVisits, Find, IsBadFind, IsBadMet, IsKept, IsVisit, IsWeakFind, IsWeakMet, SawLowest, Visit, left_by, left_by_bad, left_by_visit, left_by_weak, lines_of, lines_of_visit, scrub_bank, scrubbing, with_bad}

-- ---- lines

pub halts-both : (told more : List EventOutcome) → halts told ≡ false → halts (told ++ more) ≡ halts more
halts-both told more none = list_any-append (λ (t : EventOutcome). is_stopping t.acted || is_panic t.acted) told more ∙ ap (λ (b : Bool). b || halts more) none

pub lines-more : (visits : List Visit) (v : Visit) → lines_of (visits ++ v ∷ []) ≡ lines_of visits ++ lines_of_visit v
lines-more visits v = flat_map-append lines_of_visit visits (v ∷ []) ∙ ap (λ (l : List EventOutcome). lines_of visits ++ l) (append-nil (lines_of_visit v))

-- ---- one more

pub left-more : (banks : Banks) (visits : List Visit) (v : Visit) → left_by banks (visits ++ v ∷ []) ≡ left_by_visit v (left_by banks visits)
left-more banks [] v = refl
left-more banks (w ∷ ws) v = left-more (left_by_visit w banks) ws v

pub count-more : (first : ℕ) (visits : List Visit) (v : Visit) (frame : ℕ) → first + length visits ≡ frame → first + length (visits ++ v ∷ []) ≡ frame + 1
count-more first visits v frame here = let more : length (visits ++ v ∷ []) ≡ length visits + 1 = length-append visits (v ∷ []) in omega (arith, here, more)

module _ {layout : Layout} {view : View} {who : Who} where
  pub visits-more : (first : ℕ) (banks : Banks) (visits : List Visit) (v : Visit) (frame : ℕ) → first + length visits ≡ frame → AreVisits layout view who first banks visits → IsVisit layout view who (record { 0 = frame }) (left_by banks visits) v
      → AreVisits layout view who first banks (visits ++ v ∷ [])
  visits-more first banks [] v frame here are is = let same : frame ≡ first = omega (arith, here) in (subst (λ (n : ℕ). IsVisit layout view who (record { 0 = n }) banks v) same is, tt)
  visits-more first banks (w ∷ ws) v frame here are is = (are.0, visits-more (first + 1) (left_by_visit w banks) ws v frame (omega (arith, here)) are.1 is)

-- ---- the banks

emptied : AreBanks empty_banks
emptied = record { three = refl; free = refl }

pub bad-leaves : (line : Option ℕ) (banks : Banks) → AreBanks banks → AreBanks (left_by_bad line banks)
bad-leaves None banks are = are
bad-leaves (Some line) banks are = emptied

weak-leaves : (line : Option ℕ) (banks : Banks) → AreBanks banks → AreBanks (left_by_weak line banks)
weak-leaves None banks are = are
weak-leaves (Some line) banks are = record { three = length-set banks scrub_bank None ∙ are.three; free = set_here banks scrub_bank None None are.free }

-- the frames leave the scrubber's bank with nothing
pub left-banks : (banks : Banks) (visits : List Visit) → AreBanks banks → AreBanks (left_by banks visits)
left-banks banks [] are = are
left-banks banks (v ∷ vs) are = left-banks (left_by_visit v banks) vs (weak-leaves v.weak.line (left_by_bad v.bad.line banks) (bad-leaves v.bad.line banks are))

-- ---- a weak line

abbrev pub weak_event : Frame → ℕ → Event
weak_event frame line = without_over (own_event origins.WeakLine frame line)

logged-alone : (frame : Frame) (line : ℕ) → logged None (own_event origins.WeakLine frame line) ≡ Some (weak_event frame line)
logged-alone frame line = refl

module _ (frame : Frame) (line : ℕ) (banks : Banks) (are : AreBanks banks) where
  logged-is : logged (slice_index_or banks scrub_bank None) (own_event origins.WeakLine frame line) ≡ Some (weak_event frame line)
  logged-is = ap (λ (o : Option Event). logged o (own_event origins.WeakLine frame line)) (get_or_from_slice_get banks scrub_bank None None are.free) ∙ logged-alone frame line

  -- it is the one event that the scrubber's bank holds
  pub kept-is : kept_lines (logged (slice_index_or banks scrub_bank None) (own_event origins.WeakLine frame line)) ≡ kept_line (weak_event frame line) ∷ []
  kept-is = ap kept_lines logged-is

  -- a corrected error, which is kept on record
  pub is-kept : (layout : Layout) (view : View) (who : Who) → IsKept layout view who frame banks line (kept_line (weak_event frame line) ∷ [])
  is-kept layout view who = record {
    event = weak_event frame line;
    held = set_here banks scrub_bank (logged (slice_index_or banks scrub_bank None) (own_event origins.WeakLine frame line)) None are.free ∙ ap (λ (o : Option Event). Some o) logged-is;
    events = refl;
    told = ((refl, refl), tt);
  }

pub kept-goes-on : (frame : Frame) (line : ℕ) → halts (kept_line (weak_event frame line) ∷ []) ≡ false
kept-goes-on frame line = refl

-- ---- what is known stays

module _ (layout : Layout) (who : Who) {old new : View} (stay : Stay who old new) (saws : (place : SharedWord) (word : ℕ) → Saw old who place word → Saw new who place word) where
  lowest-stays : (place : SharedWord) (line : Option ℕ) → SawLowest old who place line → SawLowest new who place line
  lowest-stays place line is = record { word = is.word; saw = saws place is.word is.saw; lowest = is.lowest }

  bad-met-stays : (frame : Frame) (banks : Banks) (line : Option ℕ) (lines : List EventOutcome) → IsBadMet layout old who frame banks line lines → IsBadMet layout new who frame banks line lines
  bad-met-stays frame banks None lines is = is
  bad-met-stays frame banks (Some line) lines is = record { events = is.events; told = told-stays layout who None stay (has_stop scrubbing (with_bad frame line banks)) lines is.told }

  pub bad-stays : (frame : Frame) (banks : Banks) (f : Find) → IsBadFind layout old who frame banks f → IsBadFind layout new who frame banks f
  bad-stays frame banks f is = record { saw = lowest-stays (places.Bad frame) f.line is.saw; met = bad-met-stays frame banks f.line f.lines is.met }

  weak-met-stays : (frame : Frame) (banks : Banks) (line : Option ℕ) (lines : List EventOutcome) → IsWeakMet layout old who frame banks line lines → IsWeakMet layout new who frame banks line lines
  weak-met-stays frame banks None lines is = is
  weak-met-stays frame banks (Some line) lines is = record { event = is.event; held = is.held; events = is.events; told = told-stays layout who None stay false lines is.told }

  weak-stays : (frame : Frame) (banks : Banks) (f : Find) → IsWeakFind layout old who frame banks f → IsWeakFind layout new who frame banks f
  weak-stays frame banks f is = record { saw = lowest-stays (places.Weak frame) f.line is.saw; met = weak-met-stays frame banks f.line f.lines is.met }

  pub visits-stay : (first : ℕ) (banks : Banks) (visits : List Visit) → AreVisits layout old who first banks visits → AreVisits layout new who first banks visits
  visits-stay first banks [] are = tt
  visits-stay first banks (v ∷ vs) are = (
    record { bad = bad-stays (record { 0 = first }) banks v.bad are.0.bad; weak = weak-stays (record { 0 = first }) (left_by_bad v.bad.line banks) v.weak are.0.weak },
    visits-stay (first + 1) (left_by_visit v banks) vs are.1,
  )
