-- The board at opening keeps the frame rule.
use Rattle.std.proofs.Common.{◌≡◌, ◌⊎◌, inl, inr, ℕ, zero, suc, ◌+◌, ◌*◌, ◌/◌, ◌%◌, ◌^◌, ◌<◌, ◌≤◌, Bool, true, false, not, List, [], ◌∷◌, ◌++◌, Some, None, map, length, replicate, take, drop, get_or, slice_get, slice_index, refl, sym, ap, ◌∙◌, subst, arith}
use Rattle.std.specs.List.{sum_by}
use Rattle.std.specs.Int.{from_bool}
use Rattle.std.proofs.lemmas.List.{length-append, length-map, length-replicate, get_or-drop, drop-drop, take_all}
use Rattle.std.proofs.Math.Nat.{pow-succ', zero-div, div-div-eq-div-mul}
use Rattle.std.proofs.lemmas.List.Sums.{sum_by_more}
use Rattle.hwp_words.specs.Frames.{count_of, owner_of, lock_of, handled_of, poison_of, cycle_of, is_kernel}
use Rattle.std.proofs.lemmas.Option.{none-some, same_Some, get_or_from_slice_get, slice_get_past}
use Rattle.hwp_page.specs.hwp_geom.declared.Layout.{Layout}
use Rattle.hwp_page.specs.hwp_geom.Layout.{IsSound}
use Rattle.hwp_core_rule.specs.declared.view.View.{View}
use Rattle.hwp_core_rule.specs.Lists.{EachMember}
use Rattle.hwp_core_rule.specs.Opening.{below, opening_frame, free_bits, opening_free, opening_available, opening_policy, opening_words, opening_view}
use Rattle.hwp_core_rule.specs.Words.{words_of, segment, free_bit, sum_below, free_words, trans_from, caches_from, pages_from, frees_from, available_at, bads_from, weaks_from, counter_at, processes_from, policies_from, losses_from, stop_at, size}
use Rattle.hwp_core_rule.proofs.Lists.{each-map, each-push, same-or, at_longer, at_map, map-was}

-- the first part of a list, and what follows it
segment-here : (A B : List ℕ) (count : ℕ) → length A ≡ count → segment 0 count (A ++ B) ≡ A
segment-here A B count is = subst (λ (n : ℕ). take n (A ++ B) ≡ A) is (take-front A B)
  where
    take-front : (A B : List ℕ) → take (length A) (A ++ B) ≡ A
    take-front [] B = refl
    take-front (x ∷ xs) B = ap (λ (l : List ℕ). x ∷ l) (take-front xs B)

drop-front : (A B : List ℕ) → drop (length A) (A ++ B) ≡ B
drop-front [] B = refl
drop-front (x ∷ xs) B = drop-front xs B

-- past the first part, one reads what follows it
skip : (A B : List ℕ) (from after count : ℕ) → from ≡ length A + after → segment from count (A ++ B) ≡ segment after count B
skip A B from after count is = ap (λ (n : ℕ). segment n count (A ++ B)) is ∙ ap (take count) (sym (drop-drop after (length A) (A ++ B)) ∙ ap (drop after) (drop-front A B))

skip-index : (A B : List ℕ) (i j : ℕ) → i ≡ length A + j → slice_index (A ++ B) i ≡ slice_index B j
skip-index A B i j is = ap (slice_index (A ++ B)) is ∙ sym (get_or-drop (length A) (A ++ B) j 0) ∙ ap (λ (l : List ℕ). slice_index l j) (drop-front A B)

-- the numbers below n are n, each below n
pub length-below : (n : ℕ) → length (below n) ≡ n
length-below zero = refl
length-below (suc n) = length-append (below n) (n ∷ []) ∙ (let h : length (below n) ≡ n = length-below n in omega arith)

pub each-below : (n : ℕ) → EachMember (λ (m : ℕ). m < n) (below n)
each-below zero = λ i x e. absurd (none-some x e)
each-below (suc n) = each-push (λ (m : ℕ). m < suc n) (below n) n (omega arith) (λ i x e. let h : x < n = each-below n i x e in omega arith)

-- a projection of the opening views that is the same for each of them
pub each-view : {B : Type 0} (g : View → B) (P : B → Type 0) (n : ℕ) → ((c : ℕ) → c < n → P (g (opening_view c))) → EachMember P (map g (map opening_view (below n)))
each-view {B} g P n is = each-map g P (map opening_view (below n)) (each-map opening_view (λ (v : View). P (g v)) (below n) (λ i c e. is c (each-below n i c e)))

-- the opening words by their kinds: what follows each of them
abbrev zeros : ℕ → List ℕ
zeros n = replicate n 0

abbrev zero_word : List ℕ
zero_word = 0 ∷ []

pub length-zeros : (n : ℕ) → length (zeros n) ≡ n
length-zeros n = length-replicate n 0

length-same : (n x : ℕ) → length (replicate n x) ≡ n
length-same n x = length-replicate n x

abbrev tail-12 : Layout → List ℕ
tail-12 layout = zero_word ++ []

abbrev tail-11 : Layout → List ℕ
tail-11 layout = zeros layout.files ++ tail-12 layout

abbrev tail-10 : Layout → List ℕ
tail-10 layout = replicate (length layout.threads) opening_policy ++ tail-11 layout

abbrev tail-9 : Layout → List ℕ
tail-9 layout = zeros layout.procs ++ tail-10 layout

abbrev tail-8 : Layout → List ℕ
tail-8 layout = zero_word ++ tail-9 layout

abbrev tail-7 : Layout → List ℕ
tail-7 layout = zeros layout.frames ++ tail-8 layout

abbrev tail-6 : Layout → List ℕ
tail-6 layout = zeros layout.frames ++ tail-7 layout

abbrev tail-5 : Layout → List ℕ
tail-5 layout = (opening_available layout ∷ []) ++ tail-6 layout

abbrev tail-4 : Layout → List ℕ
tail-4 layout = map (opening_free layout) (below (free_words layout)) ++ tail-5 layout

abbrev tail-3 : Layout → List ℕ
tail-3 layout = zeros (length layout.pages) ++ tail-4 layout

abbrev tail-2 : Layout → List ℕ
tail-2 layout = zeros (length layout.pages) ++ tail-3 layout

abbrev tail-1 : Layout → List ℕ
tail-1 layout = zeros (length layout.trans) ++ tail-2 layout

frames-len : (layout : Layout) → IsSound layout → length (map opening_frame layout.kernel) ≡ layout.frames
frames-len layout sound = length-map layout.kernel opening_frame ∙ sound.kernel

frees-len : (layout : Layout) → length (map (opening_free layout) (below (free_words layout))) ≡ free_words layout
frees-len layout = length-map (below (free_words layout)) (opening_free layout) ∙ length-below (free_words layout)

pub opening-frames : (layout : Layout) → IsSound layout → (words_of layout (opening_words layout)).frames ≡ map opening_frame layout.kernel
opening-frames layout sound =
    segment-here (map opening_frame layout.kernel) (tail-1 layout) (layout.frames) (frames-len layout sound)

pub opening-trans : (layout : Layout) → IsSound layout → (words_of layout (opening_words layout)).trans ≡ zeros (length layout.trans)
opening-trans layout sound =
    skip (map opening_frame layout.kernel) (tail-1 layout) (trans_from layout) 0 (length layout.trans) (let e : length (map opening_frame layout.kernel) ≡ layout.frames = (frames-len layout sound) in omega arith)
    ∙ segment-here (zeros (length layout.trans)) (tail-2 layout) (length layout.trans) (length-zeros (length layout.trans))

pub opening-caches : (layout : Layout) → IsSound layout → (words_of layout (opening_words layout)).caches ≡ zeros (length layout.pages)
opening-caches layout sound =
    skip (map opening_frame layout.kernel) (tail-1 layout) (caches_from layout) (length layout.trans) (length layout.pages) (let e : length (map opening_frame layout.kernel) ≡ layout.frames = (frames-len layout sound) in omega arith)
    ∙ skip (zeros (length layout.trans)) (tail-2 layout) ((length layout.trans)) 0 (length layout.pages) (let e : length (zeros (length layout.trans)) ≡ length layout.trans = (length-zeros (length layout.trans)) in omega arith)
    ∙ segment-here (zeros (length layout.pages)) (tail-3 layout) (length layout.pages) (length-zeros (length layout.pages))

pub opening-pages : (layout : Layout) → IsSound layout → (words_of layout (opening_words layout)).pages ≡ zeros (length layout.pages)
opening-pages layout sound =
    skip (map opening_frame layout.kernel) (tail-1 layout) (pages_from layout) (length layout.trans + length layout.pages) (length layout.pages) (let e : length (map opening_frame layout.kernel) ≡ layout.frames = (frames-len layout sound) in omega arith)
    ∙ skip (zeros (length layout.trans)) (tail-2 layout) ((length layout.trans + length layout.pages)) (length layout.pages) (length layout.pages) (let e : length (zeros (length layout.trans)) ≡ length layout.trans = (length-zeros (length layout.trans)) in omega arith)
    ∙ skip (zeros (length layout.pages)) (tail-3 layout) ((length layout.pages)) 0 (length layout.pages) (let e : length (zeros (length layout.pages)) ≡ length layout.pages = (length-zeros (length layout.pages)) in omega arith)
    ∙ segment-here (zeros (length layout.pages)) (tail-4 layout) (length layout.pages) (length-zeros (length layout.pages))

pub opening-frees : (layout : Layout) → IsSound layout → (words_of layout (opening_words layout)).frees ≡ map (opening_free layout) (below (free_words layout))
opening-frees layout sound =
    skip (map opening_frame layout.kernel) (tail-1 layout) (frees_from layout) (length layout.trans + length layout.pages + length layout.pages) (free_words layout) (let e : length (map opening_frame layout.kernel) ≡ layout.frames = (frames-len layout sound) in omega arith)
    ∙ skip (zeros (length layout.trans)) (tail-2 layout) ((length layout.trans + length layout.pages + length layout.pages)) (length layout.pages + length layout.pages) (free_words layout) (let e : length (zeros (length layout.trans)) ≡ length layout.trans = (length-zeros (length layout.trans)) in omega arith)
    ∙ skip (zeros (length layout.pages)) (tail-3 layout) ((length layout.pages + length layout.pages)) (length layout.pages) (free_words layout) (let e : length (zeros (length layout.pages)) ≡ length layout.pages = (length-zeros (length layout.pages)) in omega arith)
    ∙ skip (zeros (length layout.pages)) (tail-4 layout) ((length layout.pages)) 0 (free_words layout) (let e : length (zeros (length layout.pages)) ≡ length layout.pages = (length-zeros (length layout.pages)) in omega arith)
    ∙ segment-here (map (opening_free layout) (below (free_words layout))) (tail-5 layout) (free_words layout) (frees-len layout)

pub opening-available : (layout : Layout) → IsSound layout → (words_of layout (opening_words layout)).available ≡ opening_available layout
opening-available layout sound =
    skip-index (map opening_frame layout.kernel) (tail-1 layout) (available_at layout) (length layout.trans + length layout.pages + length layout.pages + free_words layout) (let e : length (map opening_frame layout.kernel) ≡ layout.frames = (frames-len layout sound) in omega arith)
    ∙ skip-index (zeros (length layout.trans)) (tail-2 layout) ((length layout.trans + length layout.pages + length layout.pages + free_words layout)) (length layout.pages + length layout.pages + free_words layout) (let e : length (zeros (length layout.trans)) ≡ length layout.trans = (length-zeros (length layout.trans)) in omega arith)
    ∙ skip-index (zeros (length layout.pages)) (tail-3 layout) ((length layout.pages + length layout.pages + free_words layout)) (length layout.pages + free_words layout) (let e : length (zeros (length layout.pages)) ≡ length layout.pages = (length-zeros (length layout.pages)) in omega arith)
    ∙ skip-index (zeros (length layout.pages)) (tail-4 layout) ((length layout.pages + free_words layout)) (free_words layout) (let e : length (zeros (length layout.pages)) ≡ length layout.pages = (length-zeros (length layout.pages)) in omega arith)
    ∙ skip-index (map (opening_free layout) (below (free_words layout))) (tail-5 layout) ((free_words layout)) 0 (let e : length (map (opening_free layout) (below (free_words layout))) ≡ free_words layout = (frees-len layout) in omega arith)

pub opening-bads : (layout : Layout) → IsSound layout → (words_of layout (opening_words layout)).bads ≡ zeros layout.frames
opening-bads layout sound =
    skip (map opening_frame layout.kernel) (tail-1 layout) (bads_from layout) (length layout.trans + length layout.pages + length layout.pages + free_words layout + 1) (layout.frames) (let e : length (map opening_frame layout.kernel) ≡ layout.frames = (frames-len layout sound) in omega arith)
    ∙ skip (zeros (length layout.trans)) (tail-2 layout) ((length layout.trans + length layout.pages + length layout.pages + free_words layout + 1)) (length layout.pages + length layout.pages + free_words layout + 1) (layout.frames) (let e : length (zeros (length layout.trans)) ≡ length layout.trans = (length-zeros (length layout.trans)) in omega arith)
    ∙ skip (zeros (length layout.pages)) (tail-3 layout) ((length layout.pages + length layout.pages + free_words layout + 1)) (length layout.pages + free_words layout + 1) (layout.frames) (let e : length (zeros (length layout.pages)) ≡ length layout.pages = (length-zeros (length layout.pages)) in omega arith)
    ∙ skip (zeros (length layout.pages)) (tail-4 layout) ((length layout.pages + free_words layout + 1)) (free_words layout + 1) (layout.frames) (let e : length (zeros (length layout.pages)) ≡ length layout.pages = (length-zeros (length layout.pages)) in omega arith)
    ∙ skip (map (opening_free layout) (below (free_words layout))) (tail-5 layout) ((free_words layout + 1)) (1) (layout.frames) (let e : length (map (opening_free layout) (below (free_words layout))) ≡ free_words layout = (frees-len layout) in omega arith)
    ∙ skip ((opening_available layout ∷ [])) (tail-6 layout) ((1)) 0 (layout.frames) (let e : length ((opening_available layout ∷ [])) ≡ 1 = (refl) in omega arith)
    ∙ segment-here (zeros layout.frames) (tail-7 layout) (layout.frames) (length-zeros layout.frames)

pub opening-weaks : (layout : Layout) → IsSound layout → (words_of layout (opening_words layout)).weaks ≡ zeros layout.frames
opening-weaks layout sound =
    skip (map opening_frame layout.kernel) (tail-1 layout) (weaks_from layout) (length layout.trans + length layout.pages + length layout.pages + free_words layout + 1 + layout.frames) (layout.frames) (let e : length (map opening_frame layout.kernel) ≡ layout.frames = (frames-len layout sound) in omega arith)
    ∙ skip (zeros (length layout.trans)) (tail-2 layout) ((length layout.trans + length layout.pages + length layout.pages + free_words layout + 1 + layout.frames)) (length layout.pages + length layout.pages + free_words layout + 1 + layout.frames) (layout.frames) (let e : length (zeros (length layout.trans)) ≡ length layout.trans = (length-zeros (length layout.trans)) in omega arith)
    ∙ skip (zeros (length layout.pages)) (tail-3 layout) ((length layout.pages + length layout.pages + free_words layout + 1 + layout.frames)) (length layout.pages + free_words layout + 1 + layout.frames) (layout.frames) (let e : length (zeros (length layout.pages)) ≡ length layout.pages = (length-zeros (length layout.pages)) in omega arith)
    ∙ skip (zeros (length layout.pages)) (tail-4 layout) ((length layout.pages + free_words layout + 1 + layout.frames)) (free_words layout + 1 + layout.frames) (layout.frames) (let e : length (zeros (length layout.pages)) ≡ length layout.pages = (length-zeros (length layout.pages)) in omega arith)
    ∙ skip (map (opening_free layout) (below (free_words layout))) (tail-5 layout) ((free_words layout + 1 + layout.frames)) (1 + layout.frames) (layout.frames) (let e : length (map (opening_free layout) (below (free_words layout))) ≡ free_words layout = (frees-len layout) in omega arith)
    ∙ skip ((opening_available layout ∷ [])) (tail-6 layout) ((1 + layout.frames)) (layout.frames) (layout.frames) (let e : length ((opening_available layout ∷ [])) ≡ 1 = (refl) in omega arith)
    ∙ skip (zeros layout.frames) (tail-7 layout) ((layout.frames)) 0 (layout.frames) (let e : length (zeros layout.frames) ≡ layout.frames = (length-zeros layout.frames) in omega arith)
    ∙ segment-here (zeros layout.frames) (tail-8 layout) (layout.frames) (length-zeros layout.frames)

pub opening-counter : (layout : Layout) → IsSound layout → (words_of layout (opening_words layout)).counter ≡ 0
opening-counter layout sound =
    skip-index (map opening_frame layout.kernel) (tail-1 layout) (counter_at layout) (length layout.trans + length layout.pages + length layout.pages + free_words layout + 1 + layout.frames + layout.frames) (let e : length (map opening_frame layout.kernel) ≡ layout.frames = (frames-len layout sound) in omega arith)
    ∙ skip-index (zeros (length layout.trans)) (tail-2 layout) ((length layout.trans + length layout.pages + length layout.pages + free_words layout + 1 + layout.frames + layout.frames)) (length layout.pages + length layout.pages + free_words layout + 1 + layout.frames + layout.frames) (let e : length (zeros (length layout.trans)) ≡ length layout.trans = (length-zeros (length layout.trans)) in omega arith)
    ∙ skip-index (zeros (length layout.pages)) (tail-3 layout) ((length layout.pages + length layout.pages + free_words layout + 1 + layout.frames + layout.frames)) (length layout.pages + free_words layout + 1 + layout.frames + layout.frames) (let e : length (zeros (length layout.pages)) ≡ length layout.pages = (length-zeros (length layout.pages)) in omega arith)
    ∙ skip-index (zeros (length layout.pages)) (tail-4 layout) ((length layout.pages + free_words layout + 1 + layout.frames + layout.frames)) (free_words layout + 1 + layout.frames + layout.frames) (let e : length (zeros (length layout.pages)) ≡ length layout.pages = (length-zeros (length layout.pages)) in omega arith)
    ∙ skip-index (map (opening_free layout) (below (free_words layout))) (tail-5 layout) ((free_words layout + 1 + layout.frames + layout.frames)) (1 + layout.frames + layout.frames) (let e : length (map (opening_free layout) (below (free_words layout))) ≡ free_words layout = (frees-len layout) in omega arith)
    ∙ skip-index ((opening_available layout ∷ [])) (tail-6 layout) ((1 + layout.frames + layout.frames)) (layout.frames + layout.frames) (let e : length ((opening_available layout ∷ [])) ≡ 1 = (refl) in omega arith)
    ∙ skip-index (zeros layout.frames) (tail-7 layout) ((layout.frames + layout.frames)) (layout.frames) (let e : length (zeros layout.frames) ≡ layout.frames = (length-zeros layout.frames) in omega arith)
    ∙ skip-index (zeros layout.frames) (tail-8 layout) ((layout.frames)) 0 (let e : length (zeros layout.frames) ≡ layout.frames = (length-zeros layout.frames) in omega arith)

pub opening-processes : (layout : Layout) → IsSound layout → (words_of layout (opening_words layout)).processes ≡ zeros layout.procs
opening-processes layout sound =
    skip (map opening_frame layout.kernel) (tail-1 layout) (processes_from layout) (length layout.trans + length layout.pages + length layout.pages + free_words layout + 1 + layout.frames + layout.frames + 1) (layout.procs) (let e : length (map opening_frame layout.kernel) ≡ layout.frames = (frames-len layout sound) in omega arith)
    ∙ skip (zeros (length layout.trans)) (tail-2 layout) ((length layout.trans + length layout.pages + length layout.pages + free_words layout + 1 + layout.frames + layout.frames + 1)) (length layout.pages + length layout.pages + free_words layout + 1 + layout.frames + layout.frames + 1) (layout.procs) (let e : length (zeros (length layout.trans)) ≡ length layout.trans = (length-zeros (length layout.trans)) in omega arith)
    ∙ skip (zeros (length layout.pages)) (tail-3 layout) ((length layout.pages + length layout.pages + free_words layout + 1 + layout.frames + layout.frames + 1)) (length layout.pages + free_words layout + 1 + layout.frames + layout.frames + 1) (layout.procs) (let e : length (zeros (length layout.pages)) ≡ length layout.pages = (length-zeros (length layout.pages)) in omega arith)
    ∙ skip (zeros (length layout.pages)) (tail-4 layout) ((length layout.pages + free_words layout + 1 + layout.frames + layout.frames + 1)) (free_words layout + 1 + layout.frames + layout.frames + 1) (layout.procs) (let e : length (zeros (length layout.pages)) ≡ length layout.pages = (length-zeros (length layout.pages)) in omega arith)
    ∙ skip (map (opening_free layout) (below (free_words layout))) (tail-5 layout) ((free_words layout + 1 + layout.frames + layout.frames + 1)) (1 + layout.frames + layout.frames + 1) (layout.procs) (let e : length (map (opening_free layout) (below (free_words layout))) ≡ free_words layout = (frees-len layout) in omega arith)
    ∙ skip ((opening_available layout ∷ [])) (tail-6 layout) ((1 + layout.frames + layout.frames + 1)) (layout.frames + layout.frames + 1) (layout.procs) (let e : length ((opening_available layout ∷ [])) ≡ 1 = (refl) in omega arith)
    ∙ skip (zeros layout.frames) (tail-7 layout) ((layout.frames + layout.frames + 1)) (layout.frames + 1) (layout.procs) (let e : length (zeros layout.frames) ≡ layout.frames = (length-zeros layout.frames) in omega arith)
    ∙ skip (zeros layout.frames) (tail-8 layout) ((layout.frames + 1)) (1) (layout.procs) (let e : length (zeros layout.frames) ≡ layout.frames = (length-zeros layout.frames) in omega arith)
    ∙ skip (zero_word) (tail-9 layout) ((1)) 0 (layout.procs) (let e : length (zero_word) ≡ 1 = (refl) in omega arith)
    ∙ segment-here (zeros layout.procs) (tail-10 layout) (layout.procs) (length-zeros layout.procs)

pub opening-policies : (layout : Layout) → IsSound layout → (words_of layout (opening_words layout)).policies ≡ replicate (length layout.threads) opening_policy
opening-policies layout sound =
    skip (map opening_frame layout.kernel) (tail-1 layout) (policies_from layout) (length layout.trans + length layout.pages + length layout.pages + free_words layout + 1 + layout.frames + layout.frames + 1 + layout.procs) (length layout.threads) (let e : length (map opening_frame layout.kernel) ≡ layout.frames = (frames-len layout sound) in omega arith)
    ∙ skip (zeros (length layout.trans)) (tail-2 layout) ((length layout.trans + length layout.pages + length layout.pages + free_words layout + 1 + layout.frames + layout.frames + 1 + layout.procs)) (length layout.pages + length layout.pages + free_words layout + 1 + layout.frames + layout.frames + 1 + layout.procs) (length layout.threads) (let e : length (zeros (length layout.trans)) ≡ length layout.trans = (length-zeros (length layout.trans)) in omega arith)
    ∙ skip (zeros (length layout.pages)) (tail-3 layout) ((length layout.pages + length layout.pages + free_words layout + 1 + layout.frames + layout.frames + 1 + layout.procs)) (length layout.pages + free_words layout + 1 + layout.frames + layout.frames + 1 + layout.procs) (length layout.threads) (let e : length (zeros (length layout.pages)) ≡ length layout.pages = (length-zeros (length layout.pages)) in omega arith)
    ∙ skip (zeros (length layout.pages)) (tail-4 layout) ((length layout.pages + free_words layout + 1 + layout.frames + layout.frames + 1 + layout.procs)) (free_words layout + 1 + layout.frames + layout.frames + 1 + layout.procs) (length layout.threads) (let e : length (zeros (length layout.pages)) ≡ length layout.pages = (length-zeros (length layout.pages)) in omega arith)
    ∙ skip (map (opening_free layout) (below (free_words layout))) (tail-5 layout) ((free_words layout + 1 + layout.frames + layout.frames + 1 + layout.procs)) (1 + layout.frames + layout.frames + 1 + layout.procs) (length layout.threads) (let e : length (map (opening_free layout) (below (free_words layout))) ≡ free_words layout = (frees-len layout) in omega arith)
    ∙ skip ((opening_available layout ∷ [])) (tail-6 layout) ((1 + layout.frames + layout.frames + 1 + layout.procs)) (layout.frames + layout.frames + 1 + layout.procs) (length layout.threads) (let e : length ((opening_available layout ∷ [])) ≡ 1 = (refl) in omega arith)
    ∙ skip (zeros layout.frames) (tail-7 layout) ((layout.frames + layout.frames + 1 + layout.procs)) (layout.frames + 1 + layout.procs) (length layout.threads) (let e : length (zeros layout.frames) ≡ layout.frames = (length-zeros layout.frames) in omega arith)
    ∙ skip (zeros layout.frames) (tail-8 layout) ((layout.frames + 1 + layout.procs)) (1 + layout.procs) (length layout.threads) (let e : length (zeros layout.frames) ≡ layout.frames = (length-zeros layout.frames) in omega arith)
    ∙ skip (zero_word) (tail-9 layout) ((1 + layout.procs)) (layout.procs) (length layout.threads) (let e : length (zero_word) ≡ 1 = (refl) in omega arith)
    ∙ skip (zeros layout.procs) (tail-10 layout) ((layout.procs)) 0 (length layout.threads) (let e : length (zeros layout.procs) ≡ layout.procs = (length-zeros layout.procs) in omega arith)
    ∙ segment-here (replicate (length layout.threads) opening_policy) (tail-11 layout) (length layout.threads) (length-same (length layout.threads) opening_policy)

pub opening-losses : (layout : Layout) → IsSound layout → (words_of layout (opening_words layout)).losses ≡ zeros layout.files
opening-losses layout sound =
    skip (map opening_frame layout.kernel) (tail-1 layout) (losses_from layout) (length layout.trans + length layout.pages + length layout.pages + free_words layout + 1 + layout.frames + layout.frames + 1 + layout.procs + length layout.threads) (layout.files) (let e : length (map opening_frame layout.kernel) ≡ layout.frames = (frames-len layout sound) in omega arith)
    ∙ skip (zeros (length layout.trans)) (tail-2 layout) ((length layout.trans + length layout.pages + length layout.pages + free_words layout + 1 + layout.frames + layout.frames + 1 + layout.procs + length layout.threads)) (length layout.pages + length layout.pages + free_words layout + 1 + layout.frames + layout.frames + 1 + layout.procs + length layout.threads) (layout.files) (let e : length (zeros (length layout.trans)) ≡ length layout.trans = (length-zeros (length layout.trans)) in omega arith)
    ∙ skip (zeros (length layout.pages)) (tail-3 layout) ((length layout.pages + length layout.pages + free_words layout + 1 + layout.frames + layout.frames + 1 + layout.procs + length layout.threads)) (length layout.pages + free_words layout + 1 + layout.frames + layout.frames + 1 + layout.procs + length layout.threads) (layout.files) (let e : length (zeros (length layout.pages)) ≡ length layout.pages = (length-zeros (length layout.pages)) in omega arith)
    ∙ skip (zeros (length layout.pages)) (tail-4 layout) ((length layout.pages + free_words layout + 1 + layout.frames + layout.frames + 1 + layout.procs + length layout.threads)) (free_words layout + 1 + layout.frames + layout.frames + 1 + layout.procs + length layout.threads) (layout.files) (let e : length (zeros (length layout.pages)) ≡ length layout.pages = (length-zeros (length layout.pages)) in omega arith)
    ∙ skip (map (opening_free layout) (below (free_words layout))) (tail-5 layout) ((free_words layout + 1 + layout.frames + layout.frames + 1 + layout.procs + length layout.threads)) (1 + layout.frames + layout.frames + 1 + layout.procs + length layout.threads) (layout.files) (let e : length (map (opening_free layout) (below (free_words layout))) ≡ free_words layout = (frees-len layout) in omega arith)
    ∙ skip ((opening_available layout ∷ [])) (tail-6 layout) ((1 + layout.frames + layout.frames + 1 + layout.procs + length layout.threads)) (layout.frames + layout.frames + 1 + layout.procs + length layout.threads) (layout.files) (let e : length ((opening_available layout ∷ [])) ≡ 1 = (refl) in omega arith)
    ∙ skip (zeros layout.frames) (tail-7 layout) ((layout.frames + layout.frames + 1 + layout.procs + length layout.threads)) (layout.frames + 1 + layout.procs + length layout.threads) (layout.files) (let e : length (zeros layout.frames) ≡ layout.frames = (length-zeros layout.frames) in omega arith)
    ∙ skip (zeros layout.frames) (tail-8 layout) ((layout.frames + 1 + layout.procs + length layout.threads)) (1 + layout.procs + length layout.threads) (layout.files) (let e : length (zeros layout.frames) ≡ layout.frames = (length-zeros layout.frames) in omega arith)
    ∙ skip (zero_word) (tail-9 layout) ((1 + layout.procs + length layout.threads)) (layout.procs + length layout.threads) (layout.files) (let e : length (zero_word) ≡ 1 = (refl) in omega arith)
    ∙ skip (zeros layout.procs) (tail-10 layout) ((layout.procs + length layout.threads)) (length layout.threads) (layout.files) (let e : length (zeros layout.procs) ≡ layout.procs = (length-zeros layout.procs) in omega arith)
    ∙ skip (replicate (length layout.threads) opening_policy) (tail-11 layout) ((length layout.threads)) 0 (layout.files) (let e : length (replicate (length layout.threads) opening_policy) ≡ length layout.threads = (length-same (length layout.threads) opening_policy) in omega arith)
    ∙ segment-here (zeros layout.files) (tail-12 layout) (layout.files) (length-zeros layout.files)

pub opening-stop : (layout : Layout) → IsSound layout → (words_of layout (opening_words layout)).stop ≡ 0
opening-stop layout sound =
    skip-index (map opening_frame layout.kernel) (tail-1 layout) (stop_at layout) (length layout.trans + length layout.pages + length layout.pages + free_words layout + 1 + layout.frames + layout.frames + 1 + layout.procs + length layout.threads + layout.files) (let e : length (map opening_frame layout.kernel) ≡ layout.frames = (frames-len layout sound) in omega arith)
    ∙ skip-index (zeros (length layout.trans)) (tail-2 layout) ((length layout.trans + length layout.pages + length layout.pages + free_words layout + 1 + layout.frames + layout.frames + 1 + layout.procs + length layout.threads + layout.files)) (length layout.pages + length layout.pages + free_words layout + 1 + layout.frames + layout.frames + 1 + layout.procs + length layout.threads + layout.files) (let e : length (zeros (length layout.trans)) ≡ length layout.trans = (length-zeros (length layout.trans)) in omega arith)
    ∙ skip-index (zeros (length layout.pages)) (tail-3 layout) ((length layout.pages + length layout.pages + free_words layout + 1 + layout.frames + layout.frames + 1 + layout.procs + length layout.threads + layout.files)) (length layout.pages + free_words layout + 1 + layout.frames + layout.frames + 1 + layout.procs + length layout.threads + layout.files) (let e : length (zeros (length layout.pages)) ≡ length layout.pages = (length-zeros (length layout.pages)) in omega arith)
    ∙ skip-index (zeros (length layout.pages)) (tail-4 layout) ((length layout.pages + free_words layout + 1 + layout.frames + layout.frames + 1 + layout.procs + length layout.threads + layout.files)) (free_words layout + 1 + layout.frames + layout.frames + 1 + layout.procs + length layout.threads + layout.files) (let e : length (zeros (length layout.pages)) ≡ length layout.pages = (length-zeros (length layout.pages)) in omega arith)
    ∙ skip-index (map (opening_free layout) (below (free_words layout))) (tail-5 layout) ((free_words layout + 1 + layout.frames + layout.frames + 1 + layout.procs + length layout.threads + layout.files)) (1 + layout.frames + layout.frames + 1 + layout.procs + length layout.threads + layout.files) (let e : length (map (opening_free layout) (below (free_words layout))) ≡ free_words layout = (frees-len layout) in omega arith)
    ∙ skip-index ((opening_available layout ∷ [])) (tail-6 layout) ((1 + layout.frames + layout.frames + 1 + layout.procs + length layout.threads + layout.files)) (layout.frames + layout.frames + 1 + layout.procs + length layout.threads + layout.files) (let e : length ((opening_available layout ∷ [])) ≡ 1 = (refl) in omega arith)
    ∙ skip-index (zeros layout.frames) (tail-7 layout) ((layout.frames + layout.frames + 1 + layout.procs + length layout.threads + layout.files)) (layout.frames + 1 + layout.procs + length layout.threads + layout.files) (let e : length (zeros layout.frames) ≡ layout.frames = (length-zeros layout.frames) in omega arith)
    ∙ skip-index (zeros layout.frames) (tail-8 layout) ((layout.frames + 1 + layout.procs + length layout.threads + layout.files)) (1 + layout.procs + length layout.threads + layout.files) (let e : length (zeros layout.frames) ≡ layout.frames = (length-zeros layout.frames) in omega arith)
    ∙ skip-index (zero_word) (tail-9 layout) ((1 + layout.procs + length layout.threads + layout.files)) (layout.procs + length layout.threads + layout.files) (let e : length (zero_word) ≡ 1 = (refl) in omega arith)
    ∙ skip-index (zeros layout.procs) (tail-10 layout) ((layout.procs + length layout.threads + layout.files)) (length layout.threads + layout.files) (let e : length (zeros layout.procs) ≡ layout.procs = (length-zeros layout.procs) in omega arith)
    ∙ skip-index (replicate (length layout.threads) opening_policy) (tail-11 layout) ((length layout.threads + layout.files)) (layout.files) (let e : length (replicate (length layout.threads) opening_policy) ≡ length layout.threads = (length-same (length layout.threads) opening_policy) in omega arith)
    ∙ skip-index (zeros layout.files) (tail-12 layout) ((layout.files)) 0 (let e : length (zeros layout.files) ≡ layout.files = (length-zeros layout.files) in omega arith)

pub opening-size : (layout : Layout) → IsSound layout → length (opening_words layout) ≡ size layout
opening-size layout sound =
    let l0 : length (map opening_frame layout.kernel) ≡ layout.frames = frames-len layout sound in
    let l1 : length (zeros (length layout.trans)) ≡ length layout.trans = length-zeros (length layout.trans) in
    let l2 : length (zeros (length layout.pages)) ≡ length layout.pages = length-zeros (length layout.pages) in
    let l3 : length (zeros (length layout.pages)) ≡ length layout.pages = length-zeros (length layout.pages) in
    let l4 : length (map (opening_free layout) (below (free_words layout))) ≡ free_words layout = frees-len layout in
    let l5 : length ((opening_available layout ∷ [])) ≡ 1 = refl in
    let l6 : length (zeros layout.frames) ≡ layout.frames = length-zeros layout.frames in
    let l7 : length (zeros layout.frames) ≡ layout.frames = length-zeros layout.frames in
    let l8 : length (zero_word) ≡ 1 = refl in
    let l9 : length (zeros layout.procs) ≡ layout.procs = length-zeros layout.procs in
    let l10 : length (replicate (length layout.threads) opening_policy) ≡ length layout.threads = length-same (length layout.threads) opening_policy in
    let l11 : length (zeros layout.files) ≡ layout.files = length-zeros layout.files in
    let l12 : length (zero_word) ≡ 1 = refl in
    let t0 : length (opening_words layout) ≡ length (map opening_frame layout.kernel) + length (tail-1 layout) = length-append (map opening_frame layout.kernel) (tail-1 layout) in
    let t1 : length (tail-1 layout) ≡ length (zeros (length layout.trans)) + length (tail-2 layout) = length-append (zeros (length layout.trans)) (tail-2 layout) in
    let t2 : length (tail-2 layout) ≡ length (zeros (length layout.pages)) + length (tail-3 layout) = length-append (zeros (length layout.pages)) (tail-3 layout) in
    let t3 : length (tail-3 layout) ≡ length (zeros (length layout.pages)) + length (tail-4 layout) = length-append (zeros (length layout.pages)) (tail-4 layout) in
    let t4 : length (tail-4 layout) ≡ length (map (opening_free layout) (below (free_words layout))) + length (tail-5 layout) = length-append (map (opening_free layout) (below (free_words layout))) (tail-5 layout) in
    let t5 : length (tail-5 layout) ≡ length ((opening_available layout ∷ [])) + length (tail-6 layout) = length-append ((opening_available layout ∷ [])) (tail-6 layout) in
    let t6 : length (tail-6 layout) ≡ length (zeros layout.frames) + length (tail-7 layout) = length-append (zeros layout.frames) (tail-7 layout) in
    let t7 : length (tail-7 layout) ≡ length (zeros layout.frames) + length (tail-8 layout) = length-append (zeros layout.frames) (tail-8 layout) in
    let t8 : length (tail-8 layout) ≡ length (zero_word) + length (tail-9 layout) = length-append (zero_word) (tail-9 layout) in
    let t9 : length (tail-9 layout) ≡ length (zeros layout.procs) + length (tail-10 layout) = length-append (zeros layout.procs) (tail-10 layout) in
    let t10 : length (tail-10 layout) ≡ length (replicate (length layout.threads) opening_policy) + length (tail-11 layout) = length-append (replicate (length layout.threads) opening_policy) (tail-11 layout) in
    let t11 : length (tail-11 layout) ≡ length (zeros layout.files) + length (tail-12 layout) = length-append (zeros layout.files) (tail-12 layout) in
    let t12 : length (tail-12 layout) ≡ 1 = refl in
    omega arith

-- members of lists of one value, and of the numbers below
pub at-replicate : {A : Type 0} (n : ℕ) (a x : A) (i : ℕ) → slice_get (replicate n a) i ≡ Some x → a ≡ x
at-replicate zero a x i e = absurd (none-some x e)
at-replicate (suc n) a x zero e = same_Some a x e
at-replicate (suc n) a x (suc i) e = at-replicate n a x i e

pub replicate-at : {A : Type 0} (n : ℕ) (a : A) (i : ℕ) → i < n → slice_get (replicate n a) i ≡ Some a
replicate-at zero a i less = absurd (omega arith)
replicate-at (suc n) a zero less = refl
replicate-at (suc n) a (suc i) less = replicate-at n a i (omega arith)

pub zeros-are : (n x i : ℕ) → slice_get (zeros n) i ≡ Some x → x ≡ 0
zeros-are n x i e = sym (at-replicate n 0 x i e)

pub get-past : {A : Type 0} (l m : List A) (n i : ℕ) → n ≡ length l + i → slice_get (l ++ m) n ≡ slice_get m i
get-past [] m n i e = ap (slice_get m) (let h : n ≡ i = e ∙ omega arith in h)
get-past (x ∷ xs) m zero i e = absurd (let h : 0 ≡ length (x ∷ xs) + i = e in omega arith)
get-past (x ∷ xs) m (suc n) i e = get-past xs m n i (let h : suc n ≡ length (x ∷ xs) + i = e in omega arith)

pub below-at : (n i : ℕ) → i < n → slice_get (below n) i ≡ Some i
below-at zero i less = absurd (omega arith)
below-at (suc n) i less = elim (same-or i n) [
  | inl same ↦ get-past (below n) (n ∷ []) i 0 (let l : length (below n) ≡ n = length-below n in omega arith) ∙ ap (λ (m : ℕ). Some m) (sym same)
  | inr other ↦ at_longer (below n) (n ∷ []) i i (below-at n i (omega arith))
]

-- the word of a frame at opening
pub record IsOpened (kernel : Bool) (w : ℕ) : Type 0 where
  pub count : count_of w ≡ 0
  pub owner : owner_of w ≡ 0
  pub lock : lock_of w ≡ 0
  pub handled : handled_of w ≡ 0
  pub poison : poison_of w ≡ 0
  pub cycle : cycle_of w ≡ 0
  pub is_kernel : is_kernel w ≡ kernel

opened : (kernel : Bool) → IsOpened kernel (opening_frame kernel)
opened true = record { count = refl; owner = refl; lock = refl; handled = refl; poison = refl; cycle = refl; is_kernel = refl }
opened false = record { count = refl; owner = refl; lock = refl; handled = refl; poison = refl; cycle = refl; is_kernel = refl }

pub frame-opened : (layout : Layout) (f w : ℕ) → slice_get (map opening_frame layout.kernel) f ≡ Some w → (k : Bool) × (slice_get layout.kernel f ≡ Some k) × IsOpened k w
frame-opened layout f w there = let was = map-was opening_frame layout.kernel f w there in (was.0, was.1, subst (IsOpened was.0) was.2 (opened was.0))

-- a free bit at opening: set where the frame isn't the kernel's
halves : (b n i : ℕ) → b < 2 → (b + 2 * n) / 2 ^ suc i ≡ n / 2 ^ i
halves b n i small =
    let half : (b + 2 * n) / 2 ≡ n = omega arith in
    let twice : 2 ^ suc i ≡ 2 * 2 ^ i = pow-succ' 2 i in
    ap (λ (d : ℕ). (b + 2 * n) / d) twice ∙ sym (div-div-eq-div-mul (b + 2 * n) 2 (2 ^ i)) ∙ ap (λ (m : ℕ). m / 2 ^ i) half

bool-small : (b : Bool) → from_bool b < 2
bool-small true = omega arith
bool-small false = omega arith

bits-at : (l : List Bool) (i : ℕ) (k : Bool) → slice_get l i ≡ Some k → free_bits l / 2 ^ i % 2 ≡ from_bool (not k)
bits-at [] i k e = absurd (none-some k e)
bits-at (x ∷ xs) zero k e =
    let small : from_bool (not x) < 2 = bool-small (not x) in
    let same : from_bool (not x) ≡ from_bool (not k) = ap (λ (b : Bool). from_bool (not b)) (same_Some x k e) in
    let one : 2 ^ 0 ≡ 1 = refl in
    let whole : free_bits (x ∷ xs) ≡ from_bool (not x) + 2 * free_bits xs = refl in
    omega arith
bits-at (x ∷ xs) (suc i) k e = ap (λ (m : ℕ). m % 2) (halves (from_bool (not x)) (free_bits xs) i (bool-small (not x))) ∙ bits-at xs i k e

bits-past : (l : List Bool) (i : ℕ) → slice_get l i ≡ None → free_bits l / 2 ^ i % 2 ≡ 0
bits-past [] i e = ap (λ (m : ℕ). m % 2) (zero-div (2 ^ i))
bits-past (x ∷ xs) zero e = absurd (none-some x (sym e))
bits-past (x ∷ xs) (suc i) e = ap (λ (m : ℕ). m % 2) (halves (from_bool (not x)) (free_bits xs) i (bool-small (not x))) ∙ bits-past xs i e

get-drop : {A : Type 0} (l : List A) (n i : ℕ) → slice_get (drop n l) i ≡ slice_get l (n + i)
get-drop l zero i = ap (slice_get l) (let h : i ≡ 0 + i = omega arith in h)
get-drop {A} [] (suc n) i = sym (nothing (suc n + i))
  where
    nothing : (i : ℕ) → slice_get {X = A} [] i ≡ None
    nothing zero = refl
    nothing (suc i) = refl
get-drop (x ∷ xs) (suc n) i = get-drop xs n i ∙ ap (slice_get (x ∷ xs)) (let h : suc (n + i) ≡ suc n + i = omega arith in h)

get-take : {A : Type 0} (l : List A) (n i : ℕ) → i < n → slice_get (take n l) i ≡ slice_get l i
get-take l zero i less = absurd (omega arith)
get-take [] (suc n) i less = refl
get-take (x ∷ xs) (suc n) zero less = refl
get-take (x ∷ xs) (suc n) (suc i) less = get-take xs n i (omega arith)

window : (layout : Layout) (f : ℕ) → slice_get (take 64 (drop (f / 64 * 64) layout.kernel)) (f % 64) ≡ slice_get layout.kernel f
window layout f = get-take (drop (f / 64 * 64) layout.kernel) 64 (f % 64) (omega arith) ∙ get-drop layout.kernel (f / 64 * 64) (f % 64) ∙ ap (slice_get layout.kernel) (omega arith)

index-at : (g : ℕ → ℕ) (n i : ℕ) → i < n → slice_index (map g (below n)) i ≡ g i
index-at g n i less = get_or_from_slice_get (map g (below n)) i (g i) 0 (at_map g (below n) i i (below-at n i less))

index-past : (l : List ℕ) (i : ℕ) → length l ≤ i → slice_index l i ≡ 0
index-past [] i past = refl
index-past (x ∷ xs) zero past = absurd (omega arith)
index-past (x ∷ xs) (suc i) past = index-past xs i (omega arith)

pub free-bit-opened : (layout : Layout) (f : ℕ) (k : Bool) → f < layout.frames → slice_get layout.kernel f ≡ Some k → free_bit (map (opening_free layout) (below (free_words layout))) f ≡ from_bool (not k)
free-bit-opened layout f k less there =
    let word : slice_index (map (opening_free layout) (below (free_words layout))) (f / 64) ≡ opening_free layout (f / 64) = index-at (opening_free layout) (free_words layout) (f / 64) (omega arith) in
    ap (λ (w : ℕ). w / 2 ^ (f % 64) % 2) word ∙ bits-at (take 64 (drop (f / 64 * 64) layout.kernel)) (f % 64) k (window layout f ∙ there)

pub less-or : (n m : ℕ) → (n < m) ⊎ (m ≤ n)
less-or n zero = inr (omega arith)
less-or zero (suc m) = inl (omega arith)
less-or (suc n) (suc m) = elim (less-or n m) [
  | inl less ↦ inl (omega arith)
  | inr past ↦ inr (omega arith)
]

pub free-bit-past : (layout : Layout) (sound : IsSound layout) (f : ℕ) → layout.frames ≤ f → free_bit (map (opening_free layout) (below (free_words layout))) f ≡ 0
free-bit-past layout sound f past = elim (less-or (f / 64) (free_words layout)) [
  | inl less ↦
      ap (λ (w : ℕ). w / 2 ^ (f % 64) % 2) (index-at (opening_free layout) (free_words layout) (f / 64) less)
      ∙ bits-past (take 64 (drop (f / 64 * 64) layout.kernel)) (f % 64) (window layout f ∙ slice_get_past layout.kernel f (let n : length layout.kernel ≡ layout.frames = sound.kernel in omega arith))
  | inr beyond ↦
      ap (λ (w : ℕ). w / 2 ^ (f % 64) % 2) (index-past (map (opening_free layout) (below (free_words layout))) (f / 64) (let n = frees-len layout in omega (arith, n)))
      ∙ ap (λ (m : ℕ). m % 2) (zero-div (2 ^ (f % 64)))
]

-- a sum over numbers is the sum over a list whose members it goes by
below-sum : {A : Type 0} (g : ℕ → ℕ) (h : A → ℕ) (l : List A) (n : ℕ) → n ≤ length l → ((i : ℕ) (x : A) → i < n → slice_get l i ≡ Some x → g i ≡ h x) → sum_below g n ≡ sum_by h (take n l)
below-sum g h l zero fits same = refl
below-sum {A} g h l (suc n) fits same =
    let first : sum_below g n ≡ sum_by h (take n l) = below-sum g h l n (omega arith) (λ i x less there. same i x (omega arith) there) in
    let found = member l n (omega arith) in
    let last : g n ≡ h found.0 = same n found.0 (omega arith) found.1 in
    let more : sum_by h (take (n + 1) l) ≡ sum_by h (take n l) + h (get_or l n found.0) = sum_by_more h l n found.0 (omega arith) in
    let is : get_or l n found.0 ≡ found.0 = get_or_from_slice_get l n found.0 found.0 found.1 in
    let its : h (get_or l n found.0) ≡ h found.0 = ap h is in
    let longer : sum_by h (take (suc n) l) ≡ sum_by h (take (n + 1) l) = ap (λ (m : ℕ). sum_by h (take m l)) (let e : suc n ≡ n + 1 = omega arith in e) in
    omega arith
  where
    member : {A : Type 0} (l : List A) (i : ℕ) → i < length l → (x : A) × (slice_get l i ≡ Some x)
    member [] i less = absurd (omega arith)
    member (x ∷ xs) zero less = (x, refl)
    member (x ∷ xs) (suc i) less = member xs i (omega arith)

pub free-number : (layout : Layout) (sound : IsSound layout) → sum_below (free_bit (map (opening_free layout) (below (free_words layout)))) layout.frames ≡ opening_available layout
free-number layout sound =
    let n : length layout.kernel ≡ layout.frames = sound.kernel in
    below-sum (free_bit (map (opening_free layout) (below (free_words layout)))) (λ (k : Bool). from_bool (not k)) layout.kernel layout.frames (omega arith) (λ i k less there. free-bit-opened layout i k less there)
    ∙ ap (λ (l : List Bool). sum_by (λ (k : Bool). from_bool (not k)) l) (take_all layout.frames layout.kernel (omega arith))
