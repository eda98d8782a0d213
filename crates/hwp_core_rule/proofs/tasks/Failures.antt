-- What a step leaves of the failures of frames: none begins but by a poison, and none that was ended opens again.
use Rattle.std.proofs.Common.{◌≡◌, ◌≢◌, ℕ, ◌+◌, ◌-◌, ◌*◌, ◌%◌, ◌^◌, ◌<◌, ◌≤◌, ◌==◌, ◌⊎◌, inl, inr, nat_lt, Bool, true, false, cond, List, [], ◌∷◌, ◌++◌, Option, Some, None, map, length, get_or, set, slice_get, slice_index, suc, zero, refl, sym, ap, ◌∙◌, subst, arith, bit_and, bit_or, bit_xor}
use Rattle.std.specs.Int.{from_bool}
use Rattle.std.specs.List.{sum_by}
use Rattle.std.proofs.lemmas.Bool.{both_ways, cases_lt, lt-ltb, le-ltb, eqb-true, eqb-false}
use Rattle.std.proofs.lemmas.List.{get_or-set_same, get_or-set_other, get_or_past, length-set}
use Rattle.std.proofs.lemmas.List.Sums.{sum_by-cons}
use Rattle.std.proofs.lemmas.Option.{same_Some, slice_get-get_or}
use Rattle.hwp_page.specs.hwp_geom.declared.Damage.TheVariants as damages
use Rattle.hwp_page.specs.hwp_geom.declared.Frame.{Frame}
use Rattle.hwp_page.specs.hwp_geom.declared.Layout.{Layout}
use Rattle.hwp_page.specs.hwp_geom.declared.Who.{Who}
use Rattle.hwp_page.specs.hwp_geom.Limits.{frame_limit}
use Rattle.hwp_words.specs.Frames.{lock_of, poison_of, handled_of, cycle_of, is_poisoned, is_kernel, handled_bit}
use Rattle.hwp_words.proofs.FieldLaws.{field-xor, field-xor_other}
use Rattle.hwp_words.proofs.FrameSteps.{fields-lock, fields-unlock, fields-poison}
use Rattle.hwp_core_rule.specs.declared.view.FrameLock.{FrameLock}
use Rattle.hwp_core_rule.specs.declared.view.InHand.{InHand}
use Rattle.hwp_core_rule.specs.declared.log.Log.{Log}
use Rattle.hwp_core_rule.specs.declared.view.Mark.{Mark}
use Rattle.hwp_core_rule.specs.declared.shared_word.SharedWord.{SharedWord}
use Rattle.hwp_core_rule.specs.declared.shared_word.SharedWord.TheVariants as places
use Rattle.hwp_core_rule.specs.declared.record.Rec.{Rec}
use Rattle.hwp_core_rule.specs.declared.view.Sight.{Sight}
use Rattle.hwp_core_rule.specs.declared.record.State.{State}
use Rattle.hwp_core_rule.specs.declared.step.Step.{Step}
use Rattle.hwp_core_rule.specs.declared.step.Step.TheVariants as steps
use Rattle.hwp_core_rule.specs.declared.view.View.{View}
use Rattle.hwp_core_rule.specs.Asks.{AsksOf, CanRetire, HasInHand}
use Rattle.hwp_core_rule.specs.Moves.{Move}
use Rattle.hwp_core_rule.specs.Rule.{Holds}
use Rattle.hwp_core_rule.specs.Logs.{log_of}
use Rattle.hwp_core_rule.specs.Lasting.{LeavesPoison, IsMild}
use Rattle.hwp_core_rule.specs.Steps.{place_of, word_after, goes}
use Rattle.hwp_core_rule.specs.Views.{view_by, view_after, noted, loaded, taken, listed_of, put_home, body_of, lock_found, lock_of_page}
use Rattle.hwp_core_rule.specs.Words.{Words, read, put, index, IsPlace}
use Rattle.hwp_core_rule.specs.parts.Locks.{IsLocked}
use Rattle.hwp_core_rule.specs.parts.Marks.{MarksAlternate}
use Rattle.hwp_core_rule.proofs.Lists.{same-or, keep, at_map}
use Rattle.hwp_core_rule.proofs.MetWords.{hand-bare}
use Rattle.hwp_core_rule.proofs.MoveKeeps.{shaped}
use Rattle.hwp_core_rule.proofs.WordsByKind.{same-put, words-read, words-put}
use Rattle.hwp_core_rule.specs.Ranks.{Pending, failure_room, failures_left, words_at}

-- ---- the marks

either : (b : Bool) (x y : View) (l : List Mark) → x.marks ≡ l → y.marks ≡ l → (cond b x y).marks ≡ l
either true x y l one other = one
either false x y l one other = other

loads : (who : Who) (place : SharedWord) (found : ℕ) (v : View) → (loaded who place found v).marks ≡ v.marks
loads who (places.Cache page) found v = refl
loads who _ found v = refl

takes-body : (layout : Layout) (who : Who) (frame : Option Frame) (content : Option Log) (v : View) → (taken layout who frame content v).marks ≡ v.marks
takes-body layout who frame None v = refl
takes-body layout who frame (Some log) v = refl

lists-body : (layout : Layout) (who : Who) (log : Log) (body : Option InHand) (v : View) → (listed_of layout who log body v).marks ≡ v.marks
lists-body layout who log None v = refl
lists-body layout who log (Some body) v = refl

puts-body : (layout : Layout) (who : Who) (content : Option Log) (v : View) → (put_home layout who content v).marks ≡ v.marks
puts-body layout who None v = refl
puts-body layout who (Some log) v = lists-body layout who log (body_of log.page v) v

-- a step that neither poisons a frame nor takes its poison back marks none
pub marks-by : (layout : Layout) (who : Who) (step : Step) (found : ℕ) (content : Option Log) (v : View) → IsMild step → (view_by layout who step found content v).marks ≡ v.marks
marks-by layout who (steps.Load place) found content v mild = loads who place found v
marks-by layout who (steps.Reserve seen) found content v mild = either (found == seen) _ _ v.marks refl refl
marks-by layout who (steps.TakeBit frame) found content v mild = either (goes (steps.TakeBit frame) found) _ _ v.marks refl refl
marks-by layout who (steps.GiveBit frame) found content v mild = refl
marks-by layout who steps.Unreserve found content v mild = refl
marks-by layout who (steps.Adopt frame) found content v mild = refl
marks-by layout who (steps.GetRef frame seen count) found content v mild = either (found == seen) _ _ v.marks refl refl
marks-by layout who (steps.PutRef frame count) found content v mild = refl
marks-by layout who (steps.LockFrame frame) found content v mild = either (goes (steps.LockFrame frame) found) _ _ v.marks (takes-body layout who (Some frame) content (record v { locks = v.locks ++ lock_found frame found ∷ [] })) refl
marks-by layout who (steps.UnlockFrame frame) found content v mild = puts-body layout who content v
marks-by layout who (steps.Retire frame) found content v mild = refl
marks-by layout who (steps.Revive frame seen) found content v mild = absurd mild
marks-by layout who (steps.SetOwner frame page owned) found content v mild = refl
marks-by layout who (steps.LockPage page) found content v mild = either (goes (steps.LockPage page) found) _ _ v.marks (takes-body layout who None content (record v { pages = v.pages ++ lock_of_page layout page content (body_of page v) ∷ [] })) refl
marks-by layout who (steps.UnlockPage page) found content v mild = puts-body layout who content v
marks-by layout who (steps.SetPte slot pte) found content v mild = refl
marks-by layout who (steps.SetCache page frame) found content v mild = refl
marks-by layout who (steps.Poison frame hardware) found content v mild = absurd mild
marks-by layout who (steps.CountPoison hardware) found content v mild = refl
marks-by layout who steps.Uncount found content v mild = refl
marks-by layout who (steps.Spoil frame line damage) found content v mild = refl
marks-by layout who (steps.Stop cpu) found content v mild = either (found == 0) _ _ v.marks refl refl
marks-by layout who steps.GiveUp found content v mild = refl
marks-by layout who (steps.Kill process page body) found content v mild = either (found == 0) _ _ v.marks (lists-body layout who (log_of body.value) (body_of body.value.page v) v) (lists-body layout who (log_of body.value) (body_of body.value.page v) v)
marks-by layout who (steps.SetPolicy thread policy settings) found content v mild = refl
marks-by layout who (steps.Lose file body) found content v mild = lists-body layout who (log_of body.value) (body_of body.value.page v) v
marks-by layout who (steps.ReportLost file) found content v mild = refl

abbrev marks_of : State → List (List Mark)
marks_of s = map (λ (v : View). v.marks) s.views

marks-kept : (layout : Layout) (seat : ℕ) (r : Rec) (a b : State) → IsMild r.step → Move layout seat r a b → marks_of b ≡ marks_of a
marks-kept layout seat r a b mild m = ap marks_of m.next
    ∙ keep (λ (v : View). v.marks) (λ (l : List (List Mark)). l ≡ marks_of a) a.views seat m.view (view_after layout r m.view) m.me (marks-by layout r.who r.step r.found r.content (noted r.who m.view) mild) refl

-- ---- the cycle and the poison of a frame, by the marks

at-own : (p c d : ℕ) → c ≡ d → cond (nat_lt c d) 1 (cond (c == d) p 0) ≡ p
at-own p c d same = which (nat_lt c d) (c == d) refl refl
  where
    which : (less equal : Bool) → nat_lt c d ≡ less → (c == d) ≡ equal → cond less 1 (cond equal p 0) ≡ p
    which true equal e f = absurd (both_ways true (sym e ∙ le-ltb c d (omega (arith, same))) refl)
    which false true e f = refl
    which false false e f = absurd (eqb-false c d f same)

not-less : (c d : ℕ) → from_bool (nat_lt c d) ≡ from_bool (nat_lt c c) → d ≤ c
not-less c d same = which (cases_lt c d)
  where
    which : (c < d) ⊎ (d ≤ c) → d ≤ c
    which (inl less) = absurd (omega (arith, same, ap from_bool (lt-ltb c d less), ap from_bool (le-ltb c c (omega arith))))
    which (inr le) = le

same-cycle : (frames now : List ℕ) (marks : List (List Mark)) (sights others : List (List Sight)) (f x y : ℕ) → MarksAlternate frames marks sights → MarksAlternate now marks others → slice_get frames f ≡ Some x → slice_get now f ≡ Some y
    → (cycle_of y ≡ cycle_of x) × (poison_of y ≡ poison_of x)
same-cycle frames now marks sights others f x y was is there here = (cycles, poisons)
  where
    cycles : cycle_of y ≡ cycle_of x
    cycles =
        let one : cycle_of x ≤ cycle_of y = not-less (cycle_of y) (cycle_of x) (sym (was.revived f x (cycle_of y) there) ∙ is.revived f y (cycle_of y) here) in
        let two : cycle_of y ≤ cycle_of x = not-less (cycle_of x) (cycle_of y) (sym (is.revived f y (cycle_of x) here) ∙ was.revived f x (cycle_of x) there) in
        omega (arith, one, two)

    poisons : poison_of y ≡ poison_of x
    poisons = sym (at-own (poison_of y) (cycle_of x) (cycle_of y) (sym cycles)) ∙ (sym (is.poisoned f y (cycle_of x) here) ∙ was.poisoned f x (cycle_of x) there) ∙ at-own (poison_of x) (cycle_of x) (cycle_of x) refl

-- ---- HANDLED, by the word after the step

-- an adopted frame isn't locked, and a retired one isn't handled yet
abbrev Fresh : Step → ℕ → Type 0
Fresh (steps.Adopt frame) found = lock_of found ≡ 0
Fresh (steps.Retire frame) found = handled_of found ≡ 0
Fresh step found = Unit {0}

-- what holds of a word and the new one, and of each word and itself
set-each : (P : ℕ → ℕ → Type 0) (l : List ℕ) (i f x : ℕ) → i < length l → P (slice_index l i) x → ((y : ℕ) → P y y) → P (slice_index l f) (slice_index (set l i x) f)
set-each P l i f x within here same = which (same-or f i)
  where
    which : (f ≡ i) ⊎ (f ≢ i) → P (slice_index l f) (slice_index (set l i x) f)
    which (inl is) = subst (λ (k : ℕ). P (slice_index l k) (slice_index (set l i x) k)) (sym is) (subst (P (slice_index l i)) (sym (get_or-set_same l i x 0 within)) here)
    which (inr other) = subst (P (slice_index l f)) (sym (get_or-set_other l i f x 0 other)) (same (slice_index l f))

set-rises : (l : List ℕ) (i f x : ℕ) → i < length l → handled_of (slice_index l i) ≤ handled_of x → handled_of (slice_index l f) ≤ handled_of (slice_index (set l i x) f)
set-rises l i f x within le = set-each (λ (y z : ℕ). handled_of y ≤ handled_of z) l i f x within le (λ y. omega arith)

handled-adopted : (w : ℕ) → lock_of w ≡ 0 → handled_of w ≤ handled_of ((w + 17) % 2 ^ 64)
handled-adopted w free = omega arith

handled-more : (w n : ℕ) → handled_of w ≤ handled_of ((w + n * 16) % 2 ^ 64)
handled-more w n = omega arith

handled-less : (w n : ℕ) → handled_of w ≤ handled_of ((w + (2 ^ 64 - n * 16)) % 2 ^ 64)
handled-less w n = omega arith

handled-owned : (w n : ℕ) → handled_of w ≤ handled_of (bit_xor w (n * 2 ^ 24))
handled-owned w n = let same : handled_of (bit_xor w (n * 2 ^ 24)) ≡ handled_of w = field-xor_other handled_bit w (n * 2 ^ 24) (omega arith) in omega (arith, same)

retired-word : (w : ℕ) → handled_of w ≡ 0 → handled_of (bit_xor w 5) ≡ 1
retired-word w open_still = field-xor handled_bit w 5 ∙ ap (λ (b : ℕ). bit_xor b 1) open_still

got-word : (seen count found : ℕ) → handled_of found ≤ handled_of (cond (found == seen) ((seen + count * 16) % 2 ^ 64) found)
got-word seen count found = which (found == seen) refl
  where
    which : (b : Bool) → (found == seen) ≡ b → handled_of found ≤ handled_of (cond b ((seen + count * 16) % 2 ^ 64) found)
    which true same = subst (λ (n : ℕ). handled_of found ≤ handled_of ((n + count * 16) % 2 ^ 64)) (eqb-true found seen same) (handled-more found count)
    which false other = omega arith

-- a step that neither poisons nor takes poison back does not take it back
pub mild-leaves : (step : Step) → IsMild step → LeavesPoison step
mild-leaves (steps.Revive frame seen) mild = mild
mild-leaves step mild = tt

-- a step that takes no poison back clears no HANDLED
rises : (layout : Layout) (step : Step) (w : Words) (f : ℕ) → LeavesPoison step → length w.frames ≡ layout.frames → IsPlace layout (place_of step) → Fresh step (read (place_of step) w)
    → handled_of (slice_index w.frames f) ≤ handled_of (slice_index (put (place_of step) (word_after step (read (place_of step) w)) w).frames f)
rises layout (steps.Load of) w f lasts count place fresh = subst (λ (x : Words). handled_of (slice_index w.frames f) ≤ handled_of (slice_index x.frames f)) (sym (same-put of w)) (omega arith)
rises layout (steps.Reserve seen) w f lasts count place fresh = omega arith
rises layout (steps.TakeBit frame) w f lasts count place fresh = omega arith
rises layout (steps.GiveBit frame) w f lasts count place fresh = omega arith
rises layout steps.Unreserve w f lasts count place fresh = omega arith
rises layout (steps.Adopt frame) w f lasts count place fresh = set-rises w.frames frame.0 f _ (omega (arith, place, count)) (handled-adopted (slice_index w.frames frame.0) fresh)
rises layout (steps.GetRef frame seen number) w f lasts count place fresh = set-rises w.frames frame.0 f _ (omega (arith, place, count)) (got-word seen number (slice_index w.frames frame.0))
rises layout (steps.PutRef frame number) w f lasts count place fresh = set-rises w.frames frame.0 f _ (omega (arith, place, count)) (handled-less (slice_index w.frames frame.0) number)
rises layout (steps.LockFrame frame) w f lasts count place fresh = set-rises w.frames frame.0 f _ (omega (arith, place, count))
    (let same : handled_of (bit_or (slice_index w.frames frame.0) 1) ≡ handled_of (slice_index w.frames frame.0) = (fields-lock (slice_index w.frames frame.0)).handled in omega (arith, same))
rises layout (steps.UnlockFrame frame) w f lasts count place fresh = set-rises w.frames frame.0 f _ (omega (arith, place, count))
    (let same : handled_of (bit_and (slice_index w.frames frame.0) 18446744073709551614) ≡ handled_of (slice_index w.frames frame.0) = (fields-unlock (slice_index w.frames frame.0)).handled in omega (arith, same))
rises layout (steps.Retire frame) w f lasts count place fresh = set-rises w.frames frame.0 f _ (omega (arith, place, count)) (omega (arith, fresh))
rises layout (steps.Revive frame seen) w f lasts count place fresh = absurd lasts
rises layout (steps.SetOwner frame page owned) w f lasts count place fresh = set-rises w.frames frame.0 f _ (omega (arith, place, count)) (handled-owned (slice_index w.frames frame.0) (page.0 + 1))
rises layout (steps.LockPage page) w f lasts count place fresh = omega arith
rises layout (steps.UnlockPage page) w f lasts count place fresh = omega arith
rises layout (steps.SetPte slot pte) w f lasts count place fresh = omega arith
rises layout (steps.SetCache page frame) w f lasts count place fresh = omega arith
rises layout (steps.Poison frame hardware) w f lasts count place fresh = set-rises w.frames frame.0 f _ (omega (arith, place, count))
    (let same : handled_of (bit_or (slice_index w.frames frame.0) 2) ≡ handled_of (slice_index w.frames frame.0) = (fields-poison (slice_index w.frames frame.0)).handled in omega (arith, same))
rises layout (steps.CountPoison hardware) w f lasts count place fresh = omega arith
rises layout steps.Uncount w f lasts count place fresh = omega arith
rises layout (steps.Spoil frame line damages.Bad) w f lasts count place fresh = omega arith
rises layout (steps.Spoil frame line damages.Weak) w f lasts count place fresh = omega arith
rises layout (steps.Stop cpu) w f lasts count place fresh = omega arith
rises layout steps.GiveUp w f lasts count place fresh = omega arith
rises layout (steps.Kill process page body) w f lasts count place fresh = omega arith
rises layout (steps.SetPolicy thread policy settings) w f lasts count place fresh = omega arith
rises layout (steps.Lose file body) w f lasts count place fresh = omega arith
rises layout (steps.ReportLost file) w f lasts count place fresh = omega arith

-- ---- the sum

-- what a word of a frame adds to the failures that are left
abbrev pub left_of : ℕ → ℕ
left_of x = (1 - poison_of x) + (1 - handled_of x)

left-poisoned : (x : ℕ) → left_of (bit_or x 2) ≤ left_of x
left-poisoned x =
    let handled : handled_of (bit_or x 2) ≡ handled_of x = (fields-poison x).handled in
    let poison : poison_of (bit_or x 2) ≡ 1 = (fields-poison x).poison in
    omega (arith, handled, poison)

-- words of which none adds more add no more in all
sum-falls : (now was : List ℕ) → length now ≡ length was → ((i : ℕ) → i < length was → left_of (get_or now i 0) ≤ left_of (get_or was i 0)) → sum_by left_of now ≤ sum_by left_of was
sum-falls [] [] same each = omega arith
sum-falls [] (y ∷ ys) same each = absurd (omega (arith, same))
sum-falls (x ∷ xs) [] same each = absurd (omega (arith, same))
sum-falls (x ∷ xs) (y ∷ ys) same each =
    let head : left_of x ≤ left_of y = each 0 (omega arith) in
    let rest : sum_by left_of xs ≤ sum_by left_of ys = sum-falls xs ys (omega (arith, same)) (λ i within. each (suc i) (omega (arith, within))) in
    let here : sum_by left_of (x ∷ xs) ≡ left_of x + sum_by left_of xs = sum_by-cons left_of x xs in
    let there : sum_by left_of (y ∷ ys) ≡ left_of y + sum_by left_of ys = sum_by-cons left_of y ys in
    omega (arith, head, rest, here, there)

-- and where one adds less, less
sum-less : (now was : List ℕ) (k : ℕ) → length now ≡ length was → ((i : ℕ) → i < length was → left_of (get_or now i 0) ≤ left_of (get_or was i 0)) → k < length was → left_of (get_or now k 0) < left_of (get_or was k 0)
    → sum_by left_of now < sum_by left_of was
sum-less [] [] k same each inside less = absurd (omega (arith, inside))
sum-less [] (y ∷ ys) k same each inside less = absurd (omega (arith, same))
sum-less (x ∷ xs) [] k same each inside less = absurd (omega (arith, same))
sum-less (x ∷ xs) (y ∷ ys) zero same each inside less =
    let rest : sum_by left_of xs ≤ sum_by left_of ys = sum-falls xs ys (omega (arith, same)) (λ i within. each (suc i) (omega (arith, within))) in
    let here : sum_by left_of (x ∷ xs) ≡ left_of x + sum_by left_of xs = sum_by-cons left_of x xs in
    let there : sum_by left_of (y ∷ ys) ≡ left_of y + sum_by left_of ys = sum_by-cons left_of y ys in
    omega (arith, less, rest, here, there)
sum-less (x ∷ xs) (y ∷ ys) (suc k) same each inside less =
    let head : left_of x ≤ left_of y = each 0 (omega arith) in
    let rest : sum_by left_of xs < sum_by left_of ys = sum-less xs ys k (omega (arith, same)) (λ i within. each (suc i) (omega (arith, within))) (omega (arith, inside)) less in
    let here : sum_by left_of (x ∷ xs) ≡ left_of x + sum_by left_of xs = sum_by-cons left_of x xs in
    let there : sum_by left_of (y ∷ ys) ≡ left_of y + sum_by left_of ys = sum_by-cons left_of y ys in
    omega (arith, head, rest, here, there)

sum-most : (l : List ℕ) → sum_by left_of l ≤ 2 * length l
sum-most [] = omega arith
sum-most (x ∷ xs) =
    let rest : sum_by left_of xs ≤ 2 * length xs = sum-most xs in
    let here : sum_by left_of (x ∷ xs) ≡ left_of x + sum_by left_of xs = sum_by-cons left_of x xs in
    omega (arith, rest, here)

-- on a sound layout there are not many
pub failures-few : (layout : Layout) (s : State) → Holds layout s → failures_left (words_at layout s) ≤ failure_room
failures-few layout s rule =
    let most : failures_left (words_at layout s) ≤ 2 * length (words_at layout s).frames = sum-most (words_at layout s).frames in
    let all : length (words_at layout s).frames ≡ layout.frames = (shaped layout s rule).frames in
    let few : layout.frames ≤ frame_limit = rule.sound.frames in
    omega (arith, most, all, few)

-- ---- a step on a board

-- what stays of a frame's word, and what only grows
pub record KeepsFailure (x y : ℕ) : Type 0 where
  pub poison : poison_of y ≡ poison_of x
  pub kernel : is_kernel y ≡ is_kernel x
  pub cycle : cycle_of y ≡ cycle_of x
  pub handled : handled_of x ≤ handled_of y

module _ {layout : Layout} {seat : ℕ} {r : Rec} {a b : State} (rule : Holds layout a) (move : Move layout seat r a b) where
  -- its word is the one that it met
  pub read-moved : read (place_of r.step) (words_at layout a) ≡ r.found
  read-moved = words-read layout a.words (place_of r.step) move.asks.place ∙ sym move.met

  -- after it that word is the step's, and the others are as before
  pub words-moved : words_at layout b ≡ put (place_of r.step) (word_after r.step r.found) (words_at layout a)
  words-moved = ap (λ (x : State). words_at layout x) move.next ∙ words-put layout a.words (place_of r.step) (word_after r.step r.found) rule.words move.asks.place

  abbrev was : List ℕ
  was = (words_at layout a).frames

  was-long : length was ≡ layout.frames
  was-long = (shaped layout a rule).frames

  inside-of : (frame : Frame) → (r.step ≡ steps.Retire frame) ⊎ (r.step ≡ steps.Adopt frame) → frame.0 < layout.frames
  inside-of frame (inl is) = subst (λ (x : Step). IsPlace layout (place_of x)) is move.asks.place
  inside-of frame (inr is) = subst (λ (x : Step). IsPlace layout (place_of x)) is move.asks.place

  -- the frame of a retire isn't handled yet
  unhandled : (frame : Frame) → r.step ≡ steps.Retire frame → handled_of (slice_index was frame.0) ≡ 0
  unhandled frame is = ap handled_of there ∙ bit
    where
      asks : CanRetire move.view frame r.content
      asks = subst (λ (x : Step). AsksOf layout r.who x r.content move.view) is move.asks.kind

      listed : slice_get move.view.locks asks.has.listed.0 ≡ Some asks.has.lock
      listed = asks.has.listed.2 ∙ ap (λ (l : FrameLock). Some l) asks.has.listed.3

      known : IsLocked was move.view.refs asks.has.lock
      known = rule.rule.frames.frame_locks.known seat (move.view.refs, move.view.locks) (at_map (λ (v : View). (v.refs, v.locks)) a.views seat move.view move.me) asks.has.listed.0 asks.has.lock listed

      there : slice_index was frame.0 ≡ known.word
      there = same_Some (slice_index was frame.0) known.word
          (sym (slice_get-get_or was frame.0 0 (omega (arith, inside-of frame (inl is), was-long))) ∙ ap (λ (f : Frame). slice_get was f.0) (sym asks.has.frame_is) ∙ known.there)

      bit : handled_of known.word ≡ 0
      bit =
          let other : handled_of known.word ≢ 1 = eqb-false (handled_of known.word) 1 (known.handled ∙ asks.unhandled) in
          let small : handled_of known.word < 2 = omega arith in
          omega (arith, other, small)

  fresh : Fresh r.step (read (place_of r.step) (words_at layout a))
  fresh = which r.step refl
    where
      which : (step : Step) → r.step ≡ step → Fresh step (read (place_of step) (words_at layout a))
      which (steps.Adopt frame) is = ap lock_of (ap (λ (x : Step). read (place_of x) (words_at layout a)) (sym is) ∙ read-moved) ∙ (hand-bare layout a rule seat move.view frame r.found move.me in-hand (inside-of frame (inr is)) met).unlocked
        where
          in-hand : HasInHand move.view frame
          in-hand = (subst (λ (x : Step). AsksOf layout r.who x r.content move.view) is move.asks.kind).0

          met : r.found ≡ slice_index a.words (index layout (places.Frame frame))
          met = move.met ∙ ap (λ (x : Step). slice_index a.words (index layout (place_of x))) is
      which (steps.Retire frame) is = unhandled frame is
      which step is = tt

  module _ (kept : Holds layout b) where
    abbrev now : List ℕ
    now = (words_at layout b).frames

    now-long : length now ≡ layout.frames
    now-long = (shaped layout b kept).frames

    -- of each frame
    later : IsMild r.step → (f : ℕ) → f < layout.frames → KeepsFailure (slice_index was f) (slice_index now f)
    later mild f inside = record { poison = marks.1; cycle = marks.0; kernel = kernels; handled = handled }
      where
        there : slice_get was f ≡ Some (slice_index was f)
        there = slice_get-get_or was f 0 (omega (arith, inside, was-long))

        here : slice_get now f ≡ Some (slice_index now f)
        here = slice_get-get_or now f 0 (omega (arith, inside, now-long))

        marks : (cycle_of (slice_index now f) ≡ cycle_of (slice_index was f)) × (poison_of (slice_index now f) ≡ poison_of (slice_index was f))
        marks = same-cycle was now (marks_of a) (map (λ (v : View). v.sights) a.views) (map (λ (v : View). v.sights) b.views) f (slice_index was f) (slice_index now f) rule.rule.failures.marks
            (subst (λ (l : List (List Mark)). MarksAlternate now l (map (λ (v : View). v.sights) b.views)) (marks-kept layout seat r a b mild move) kept.rule.failures.marks) there here

        kernel-there : slice_get layout.kernel f ≡ Some (get_or layout.kernel f false)
        kernel-there = slice_get-get_or layout.kernel f false (let count : length layout.kernel ≡ layout.frames = rule.sound.kernel in omega (arith, inside, count))

        kernels : is_kernel (slice_index now f) ≡ is_kernel (slice_index was f)
        kernels = kept.rule.frames.places.declared f (slice_index now f) (get_or layout.kernel f false) here kernel-there ∙ sym (rule.rule.frames.places.declared f (slice_index was f) (get_or layout.kernel f false) there kernel-there)

        handled : handled_of (slice_index was f) ≤ handled_of (slice_index now f)
        handled = subst (λ (w : Words). handled_of (slice_index was f) ≤ handled_of (slice_index w.frames f)) (sym words-moved)
            (subst (λ (n : ℕ). handled_of (slice_index was f) ≤ handled_of (slice_index (put (place_of r.step) (word_after r.step n) (words_at layout a)).frames f)) read-moved
            (rises layout r.step (words_at layout a) f (mild-leaves r.step mild) was-long move.asks.place fresh))

    -- a poison sets a bit of one word
    poisoned-words : (frame : Frame) (hardware : Bool) → r.step ≡ steps.Poison frame hardware → (words_at layout b).frames ≡ set was frame.0 (bit_or (slice_index was frame.0) 2)
    poisoned-words frame hardware is = ap (λ (w : Words). w.frames) words-moved
        ∙ ap (λ (x : Step). (put (place_of x) (word_after x r.found) (words_at layout a)).frames) is
        ∙ ap (λ (n : ℕ). set was frame.0 (bit_or n 2)) (sym (ap (λ (x : Step). read (place_of x) (words_at layout a)) (sym is) ∙ read-moved))

    poisoned-inside : (frame : Frame) (hardware : Bool) → r.step ≡ steps.Poison frame hardware → frame.0 < length was
    poisoned-inside frame hardware is = let inside : frame.0 < layout.frames = subst (λ (x : Step). IsPlace layout (place_of x)) is move.asks.place in omega (arith, inside, was-long)

    lowers-mild : IsMild r.step → (f : ℕ) → f < length was → left_of (slice_index now f) ≤ left_of (slice_index was f)
    lowers-mild mild f inside =
        let on : KeepsFailure (slice_index was f) (slice_index now f) = later mild f (omega (arith, inside, was-long)) in
        let poison : poison_of (slice_index now f) ≡ poison_of (slice_index was f) = on.poison in
        let handled : handled_of (slice_index was f) ≤ handled_of (slice_index now f) = on.handled in
        omega (arith, poison, handled)

    lowers : LeavesPoison r.step → (f : ℕ) → f < length was → left_of (slice_index now f) ≤ left_of (slice_index was f)
    lowers leaves f inside = which r.step refl
      where
        which : (step : Step) → r.step ≡ step → left_of (slice_index now f) ≤ left_of (slice_index was f)
        which (steps.Poison frame hardware) is = subst (λ (l : List ℕ). left_of (slice_index l f) ≤ left_of (slice_index was f)) (sym (poisoned-words frame hardware is))
            (set-each (λ (y z : ℕ). left_of z ≤ left_of y) was frame.0 f (bit_or (slice_index was frame.0) 2) (poisoned-inside frame hardware is) (left-poisoned (slice_index was frame.0)) (λ y. omega arith))
        which (steps.Revive frame seen) is = absurd (subst LeavesPoison is leaves)
        which step is = lowers-mild (subst IsMild (sym is) tt) f inside

    same-length : length now ≡ length was
    same-length = now-long ∙ sym was-long

    -- a failure that isn't ended wasn't before
    pub pending-moved : IsMild r.step → (frame : Frame) (cycle : ℕ) → Pending (words_at layout b) frame cycle → Pending (words_at layout a) frame cycle
    pending-moved mild frame cycle pending = which (cases_lt frame.0 layout.frames)
      where
        which : (frame.0 < layout.frames) ⊎ (layout.frames ≤ frame.0) → Pending (words_at layout a) frame cycle
        which (inl inside) =
            let on : KeepsFailure (slice_index was frame.0) (slice_index now frame.0) = later mild frame.0 inside in
            record {
              poisoned = ap (λ (n : ℕ). n == 1) (sym on.poison) ∙ pending.poisoned;
              handled =
                  let less : handled_of (slice_index was frame.0) ≤ handled_of (slice_index now frame.0) = on.handled in
                  let other : handled_of (slice_index now frame.0) ≢ 1 = eqb-false (handled_of (slice_index now frame.0)) 1 pending.handled in
                  let small : handled_of (slice_index now frame.0) < 2 = omega arith in
                  let none : handled_of (slice_index was frame.0) ≡ 0 = omega (arith, less, other, small) in
                  ap (λ (n : ℕ). n == 1) none;
              kernel = sym on.kernel ∙ pending.kernel;
              cycle_is = sym on.cycle ∙ pending.cycle_is;
            }
        which (inr past) = absurd (both_ways true (sym pending.poisoned ∙ ap is_poisoned (get_or_past now frame.0 0 (omega (arith, past, now-long)))) refl)

    pub failures-moved : LeavesPoison r.step → failures_left (words_at layout b) ≤ failures_left (words_at layout a)
    failures-moved leaves = sum-falls now was same-length (λ f inside. lowers leaves f inside)

    -- a poison that finds none leaves one failure fewer
    pub poison-lowers : (frame : Frame) (hardware : Bool) → r.step ≡ steps.Poison frame hardware → poison_of r.found ≡ 0 → failures_left (words_at layout b) < failures_left (words_at layout a)
    poison-lowers frame hardware is sound = subst (λ (l : List ℕ). sum_by left_of l < failures_left (words_at layout a)) (sym (poisoned-words frame hardware is))
        (sum-less (set was frame.0 word) was frame.0 (length-set was frame.0 word)
        (λ f within. set-each (λ (y z : ℕ). left_of z ≤ left_of y) was frame.0 f word inside (left-poisoned (slice_index was frame.0)) (λ y. omega arith)) inside
        (subst (λ (n : ℕ). left_of n < left_of (slice_index was frame.0)) (sym (get_or-set_same was frame.0 word 0 inside))
        (let handled : handled_of word ≡ handled_of (slice_index was frame.0) = (fields-poison (slice_index was frame.0)).handled in
        let poison : poison_of word ≡ 1 = (fields-poison (slice_index was frame.0)).poison in
        omega (arith, handled, poison, before))))
      where
        word : ℕ
        word = bit_or (slice_index was frame.0) 2

        inside : frame.0 < length was
        inside = poisoned-inside frame hardware is

        before : poison_of (slice_index was frame.0) ≡ 0
        before = ap poison_of (ap (λ (x : Step). read (place_of x) (words_at layout a)) (sym is) ∙ read-moved) ∙ sound

    -- a retire leaves one failure fewer
    pub retire-lowers : (frame : Frame) → r.step ≡ steps.Retire frame → failures_left (words_at layout b) < failures_left (words_at layout a)
    retire-lowers frame is = sum-less now was frame.0 same-length (λ f within. lowers-mild mild f within) (omega (arith, inside, was-long)) less
      where
        mild : IsMild r.step
        mild = subst IsMild (sym is) tt

        inside : frame.0 < layout.frames
        inside = inside-of frame (inl is)

        on : KeepsFailure (slice_index was frame.0) (slice_index now frame.0)
        on = later mild frame.0 inside

        word-is : slice_index now frame.0 ≡ bit_xor (slice_index was frame.0) 5
        word-is = ap (λ (w : Words). slice_index w.frames frame.0) words-moved
            ∙ ap (λ (x : Step). slice_index (put (place_of x) (word_after x r.found) (words_at layout a)).frames frame.0) is
            ∙ get_or-set_same was frame.0 (bit_xor r.found 5) 0 (omega (arith, inside, was-long))
            ∙ ap (λ (n : ℕ). bit_xor n 5) (sym (ap (λ (x : Step). read (place_of x) (words_at layout a)) (sym is) ∙ read-moved))

        less : left_of (slice_index now frame.0) < left_of (slice_index was frame.0)
        less =
            let poison : poison_of (slice_index now frame.0) ≡ poison_of (slice_index was frame.0) = on.poison in
            let open_still : handled_of (slice_index was frame.0) ≡ 0 = unhandled frame is in
            let done : handled_of (slice_index now frame.0) ≡ 1 = ap handled_of word-is ∙ retired-word (slice_index was frame.0) open_still in
            omega (arith, poison, open_still, done)
