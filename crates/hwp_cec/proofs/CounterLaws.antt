-- The counters stand for one event more after a note and after a round, and what is so of them at any time stays so.
use Rattle.std.proofs.Common.{◌≡◌, ◌≢◌, ℕ, zero, suc, ◌+◌, ◌*◌, ◌-◌, ◌<◌, ◌≤◌, ◌==◌, Bool, true, false, List, [], ◌∷◌, ◌++◌, length, get_or, set, take, drop, replicate, map, sum, count_by, if◌then◌else◌, refl, sym, ap, subst, ◌∙◌, inl, inr, eq-eqb, arith}
use Rattle.std.proofs.lemmas.Bool.{cases_eq, ne_eqb}
use Rattle.std.proofs.lemmas.Bool.Decides.{nat_tests}
use Rattle.std.proofs.lemmas.List.{get_or-replicate, get_or-set_same, get_or-set_other, get_or-take, length-set, length-map, length-replicate, length-take-le, get_or-append_right, get_or-drop, drop_more, drop_all, take_more, take_all, set_at, append-nil, append_assoc, map-append, replicate-append-replicate, with_items_is}
use Rattle.std.specs.Vec.{with_items}
use Rattle.std.specs.Prelude.{Vec}
use Rattle.std.proofs.lemmas.List.Elements.{All-get_or, All-map, All-replicate, All-weaker}
use Rattle.std.proofs.lemmas.List.Sums.{sum_by-cons, sum_by-take-le}
use Rattle.std.proofs.lemmas.List.Folds.{sum_by-replicate}
use Rattle.hwp_geom.specs.declared.Frame.{Frame}
use Rattle.hwp_cec.specs.Limits.{threshold_limit, window_limit}
use Rattle.hwp_cec.specs.Ages.{CecEvent, Note, Round, young, aged, ages_after, live}
use Rattle.hwp_cec.specs.Counting.{counted}
use Rattle.hwp_cec.specs.Counters.{Counters, row_of, counter, StandsFor, begun, noted_row, noted_in, next_row, rounded, answer, IsRow, IsCounted}
use Rattle.hwp_cec.proofs.Counts.{one, count-push, count-map, count-same, count-none}
use Rattle.hwp_cec.proofs.AgeLaws.{ages-append, sum-young}
use Rattle.hwp_cec.proofs.CountingLaws.{counted-live}

-- a note

-- a frame's counts are together the notes in the window
sum-live : (c : Counters) (events : List CecEvent) (f : ℕ) → f < length c.counts → IsRow c.threshold c.window (row_of c f) → StandsFor events c
    → sum (row_of c f) ≡ young c.window (ages_after c.threshold c.window f [] events)
sum-live c events f in_frames cells stands =
    let ages : List ℕ = ages_after c.threshold c.window f [] events in
    sum-young (row_of c f) ages (λ k h. stands.each f k in_frames (omega (arith, h, cells.whole)))
    ∙ ap (λ (n : ℕ). young n ages) cells.whole

noted_count : (cells ages : List ℕ) (k : ℕ) (b : Bool) → k < length cells → ((j : ℕ) → j < length cells → get_or cells j 0 ≡ count_by (λ age. age == j) ages)
    → get_or (if b then replicate (length cells) 0 else set cells 0 (get_or cells 0 0 + 1)) k 0 ≡ count_by (λ age. age == k) (if b then [] else ages ++ 0 ∷ [])
noted_count cells ages k true within each = get_or-replicate (length cells) k 0 0 within
noted_count cells ages zero false within each =
    get_or-set_same cells 0 (get_or cells 0 0 + 1) 0 within
    ∙ (ap (λ (n : ℕ). n + 1) (each 0 within) ∙ sym (count-push (λ age. age == 0) ages 0))
noted_count cells ages (suc k) false within each =
    let more : count_by (λ age. age == suc k) (ages ++ 0 ∷ []) ≡ count_by (λ age. age == suc k) ages + one (0 == suc k) = count-push (λ age. age == suc k) ages 0 in
    let none : one (0 == suc k) ≡ 0 = ap one (ne_eqb 0 (suc k) (λ h. absurd (omega (arith, h)))) in
    get_or-set_other cells 0 (suc k) (get_or cells 0 0 + 1) 0 (λ h. absurd (omega (arith, h)))
    ∙ (each (suc k) within ∙ omega (arith, more, none))

noted_here : (c : Counters) (events : List CecEvent) (frame : Frame) (k : ℕ) → frame.0 < length c.counts → IsRow c.threshold c.window (row_of c frame.0)
    → StandsFor events c → k < c.window
    → counter (noted_in c frame.0) frame.0 k ≡ count_by (λ age. age == k) (ages_after c.threshold c.window frame.0 [] (events ++ Note frame ∷ []))
noted_here c events frame k in_frames cells stands in_window =
    let f : ℕ = frame.0 in
    let t : ℕ = c.threshold in
    let w : ℕ = c.window in
    let ages : List ℕ = ages_after t w frame.0 [] events in
    let total : sum (row_of c frame.0) ≡ young w ages = sum-live c events frame.0 in_frames cells stands in
    ap (λ (r : List ℕ). get_or r k 0) (get_or-set_same c.counts frame.0 (noted_row t (row_of c frame.0)) [] in_frames)
    ∙ (noted_count (row_of c frame.0) ages k (sum (row_of c frame.0) + 1 == t) (omega (arith, cells.whole, in_window)) (λ j h. stands.each frame.0 j in_frames (omega (arith, h, cells.whole)))
    ∙ (ap (λ (n : ℕ). count_by (λ age. age == k) (if n + 1 == t then [] else ages ++ 0 ∷ [])) total
    ∙ sym (ap (λ (l : List ℕ). count_by (λ age. age == k) l)
    (ages-append t w frame.0 [] events (Note frame ∷ [])
    ∙ ap (λ (b : Bool). if b then aged t w ages else ages) (eq-eqb frame.0 frame.0 refl)))))

noted_elsewhere : (c : Counters) (events : List CecEvent) (frame : Frame) (g k : ℕ) → g < length c.counts → g ≢ frame.0 → StandsFor events c → k < c.window
    → counter (noted_in c frame.0) g k ≡ count_by (λ age. age == k) (ages_after c.threshold c.window g [] (events ++ Note frame ∷ []))
noted_elsewhere c events frame g k in_frames other stands in_window =
    let ages : List ℕ = ages_after c.threshold c.window g [] events in
    ap (λ (r : List ℕ). get_or r k 0) (get_or-set_other c.counts frame.0 g (noted_row c.threshold (row_of c frame.0)) [] other)
    ∙ (stands.each g k in_frames in_window
    ∙ sym (ap (λ (l : List ℕ). count_by (λ age. age == k) l)
    (ages-append c.threshold c.window g [] events (Note frame ∷ [])
    ∙ ap (λ (b : Bool). if b then aged c.threshold c.window ages else ages) (ne_eqb frame.0 g (λ h. other (sym h))))))

pub noted-stands : (c : Counters) (events : List CecEvent) (frame : Frame) → frame.0 < length c.counts → IsRow c.threshold c.window (row_of c frame.0)
    → StandsFor events c → StandsFor (events ++ Note frame ∷ []) (noted_in c frame.0)
noted-stands c events frame in_frames cells stands =
    record {
      each = λ g k g_in in_window.
          let within : g < length c.counts = omega (arith, g_in, length-set c.counts frame.0 (noted_row c.threshold (row_of c frame.0))) in
          elim (cases_eq g frame.0) [
            | inl same ↦
                subst
                (λ (h : ℕ). counter (noted_in c frame.0) h k ≡ count_by (λ age. age == k) (ages_after c.threshold c.window h [] (events ++ Note frame ∷ [])))
                (sym same)
                (noted_here c events frame k in_frames cells stands in_window)
            | inr other ↦ noted_elsewhere c events frame g k within other stands in_window
          ];
    }

-- what is answered by the counters is what the notes in the window come to
pub answer-live : (c : Counters) (events : List CecEvent) (frame : Frame) → frame.0 < length c.counts → IsRow c.threshold c.window (row_of c frame.0)
    → StandsFor events c → answer c.threshold (sum (row_of c frame.0) + 1) ≡ answer c.threshold (live c.threshold c.window events frame.0)
answer-live c events frame in_frames cells stands =
    ap (λ (n : ℕ). answer c.threshold (n + 1)) (sum-live c events frame.0 in_frames cells stands)

pub answer-counted : (c : Counters) (events : List CecEvent) (frame : Frame) → 1 ≤ c.window → frame.0 < length c.counts
    → IsRow c.threshold c.window (row_of c frame.0) → StandsFor events c
    → answer c.threshold (sum (row_of c frame.0) + 1) ≡ answer c.threshold (counted c.threshold c.window events frame)
answer-counted c events frame some in_frames cells stands =
    answer-live c events frame in_frames cells stands ∙ sym (ap (answer c.threshold) (counted-live c.threshold c.window events frame some))

-- a round

get_or-map : (f : List ℕ → List ℕ) (rows : List (List ℕ)) (i : ℕ) (d e : List ℕ) → i < length rows → get_or (map f rows) i d ≡ f (get_or rows i e)
get_or-map f [] i d e within = absurd (omega (arith, within))
get_or-map f (cells ∷ rows) zero d e within = refl
get_or-map f (cells ∷ rows) (suc i) d e within = get_or-map f rows i d e (omega (arith, within))

older_count : (cells ages : List ℕ) (k : ℕ) → k < length cells → ((j : ℕ) → j < length cells → get_or cells j 0 ≡ count_by (λ age. age == j) ages)
    → get_or (take (length cells) (0 ∷ cells)) k 0 ≡ count_by (λ age. age == k) (map (λ age. age + 1) ages)
older_count cells ages zero within each =
    get_or-take (length cells) (0 ∷ cells) 0 0 within
    ∙ sym (count-map (λ age. age == 0) (λ age. age + 1) ages ∙ count-none (λ age. (age + 1) == 0) ages (λ age. grind (arith, nat_tests)))
older_count cells ages (suc k) within each =
    get_or-take (length cells) (0 ∷ cells) (suc k) 0 within
    ∙ (each k (omega (arith, within))
    ∙ sym (count-map (λ age. age == suc k) (λ age. age + 1) ages
    ∙ count-same (λ age. (age + 1) == suc k) (λ age. age == k) ages (λ age. grind (arith, nat_tests))))

pub rounded-stands : (c : Counters) (events : List CecEvent) → IsCounted c → StandsFor events c → StandsFor (events ++ Round ∷ []) (rounded c)
rounded-stands c events is stands =
    record {
      each = λ f k f_in in_window.
          let within : f < length c.counts = omega (arith, f_in, length-map c.counts (λ (cells : List ℕ). take (length cells) (0 ∷ cells))) in
          let has : IsRow c.threshold c.window (row_of c f) = All-get_or (IsRow c.threshold c.window) c.counts f [] within is.rows in
          let ages : List ℕ = ages_after c.threshold c.window f [] events in
          ap (λ (r : List ℕ). get_or r k 0) (get_or-map (λ (cells : List ℕ). take (length cells) (0 ∷ cells)) c.counts f [] [] within)
          ∙ (older_count (row_of c f) ages k (omega (arith, has.whole, in_window)) (λ j h. stands.each f j within (omega (arith, h, has.whole)))
          ∙ sym (ap (λ (l : List ℕ). count_by (λ age. age == k) l) (ages-append c.threshold c.window f [] events (Round ∷ []))));
    }

rounded_row : (t w : ℕ) (cells : List ℕ) → IsRow t w cells → IsRow t w (take (length cells) (0 ∷ cells))
rounded_row t w cells has =
    let less : sum (take (length cells) (0 ∷ cells)) ≤ sum (0 ∷ cells) = sum_by-take-le (λ x. x) (0 ∷ cells) (length cells) in
    let same : sum (0 ∷ cells) ≡ 0 + sum cells = sum_by-cons (λ x. x) 0 cells in
    record {
      whole = length-take-le (length cells) (0 ∷ cells) (omega arith) ∙ has.whole;
      below = omega (arith, less, same, has.below);
    }

pub rounded-counted : (c : Counters) → IsCounted c → IsCounted (rounded c)
rounded-counted c is =
    record {
      low = is.low;
      some_rounds = is.some_rounds;
      rounds_within = is.rounds_within;
      rows = All-map (IsRow c.threshold c.window) (λ (cells : List ℕ). take (length cells) (0 ∷ cells)) c.counts
          (All-weaker (IsRow c.threshold c.window) (λ cells. IsRow c.threshold c.window (take (length cells) (0 ∷ cells))) (rounded_row c.threshold c.window) c.counts is.rows);
    }

-- in a loop over all rows: the first i have been made anew, and the rest is as it was

pub cells-before : (ys xs : List (List ℕ)) (i : ℕ) (d : List ℕ) → length ys ≡ i → get_or (ys ++ drop i xs) i d ≡ get_or xs i d
cells-before ys xs i d long = get_or-append_right ys (drop i xs) i i d long (omega arith) ∙ (get_or-drop i xs (i - i) d ∙ ap (λ (k : ℕ). get_or xs k d) (omega arith))

pub rows-more : (ys xs : List (List ℕ)) (i : ℕ) (y : List ℕ) → length ys ≡ i → i < length xs → set (ys ++ drop i xs) i y ≡ (ys ++ y ∷ []) ++ drop (i + 1) xs
rows-more ys xs i y long within =
    ap (λ (l : List (List ℕ)). set (ys ++ l) i y) (drop_more xs i [] within)
    ∙ (set_at ys (get_or xs i []) (drop (i + 1) xs) y i long ∙ sym (append_assoc ys (y ∷ []) (drop (i + 1) xs)))

pub begun-more : (w i : ℕ) (items xs : List (List ℕ)) (y : List ℕ) → items ≡ replicate i (replicate w 0) ++ drop i xs → i < length xs → y ≡ replicate w 0
    → set items i y ≡ replicate (i + 1) (replicate w 0) ++ drop (i + 1) xs
begun-more w i items xs y are within is =
    let zero_row : List ℕ = replicate w 0 in
    let rows : List (List ℕ) = replicate i zero_row in
    ap (λ (l : List (List ℕ)). set l i y) are
    ∙ (rows-more rows xs i y (length-replicate i zero_row) within
    ∙ ap (λ (l : List (List ℕ)). l ++ drop (i + 1) xs) (ap (λ (r : List ℕ). rows ++ r ∷ []) is ∙ replicate-append-replicate i 1 zero_row))

pub rounded-more : (i : ℕ) (items xs : List (List ℕ)) (old y : List ℕ) → items ≡ map next_row (take i xs) ++ drop i xs → i < length xs
    → old ≡ get_or items i [] → y ≡ next_row old → set items i y ≡ map next_row (take (i + 1) xs) ++ drop (i + 1) xs
rounded-more i items xs old y are within was is =
    let rows : List (List ℕ) = map next_row (take i xs) in
    let long : length rows ≡ i = length-map (take i xs) next_row ∙ length-take-le i xs (omega (arith, within)) in
    let read : old ≡ get_or xs i [] = was ∙ (ap (λ (l : List (List ℕ)). get_or l i []) are ∙ cells-before rows xs i [] long) in
    let made : rows ++ y ∷ [] ≡ map next_row (take (i + 1) xs) =
    ap (λ (r : List ℕ). rows ++ r ∷ []) (is ∙ ap next_row read)
    ∙ (sym (map-append next_row (take i xs) (get_or xs i [] ∷ [])) ∙ sym (ap (map next_row) (take_more xs i [] within))) in
    ap (λ (l : List (List ℕ)). set l i y) are
    ∙ (rows-more rows xs i y long within ∙ ap (λ (l : List (List ℕ)). l ++ drop (i + 1) xs) made)

pub rounded-all : (i : ℕ) (items xs : List (List ℕ)) → items ≡ map next_row (take i xs) ++ drop i xs → length xs ≤ i → items ≡ map next_row xs
rounded-all i items xs are past =
    are
    ∙ (ap (λ (l : List (List ℕ)). map next_row (take i xs) ++ l) (drop_all i xs past)
    ∙ (append-nil (map next_row (take i xs)) ∙ ap (map next_row) (take_all i xs past)))

abbrev pub with_rows : ℕ → ℕ → List (List ℕ) → Counters
with_rows threshold window rows = record { threshold = threshold; window = window; counts = rows }

-- the counters when the loop has ended
pub rounded-whole : {Z : Type 0} (threshold window i : ℕ) (rings : Vec (List ℕ) Z) (made : List (List ℕ)) (v : Counters)
    → with_rows threshold window rings.items ≡ v → made ≡ map next_row (take i v.counts) ++ drop i v.counts → length rings.items ≤ i → length made ≡ rings.len
    → with_rows threshold window (with_items rings made).items ≡ rounded v
rounded-whole threshold window i rings made v view are past same =
    let long : length rings.items ≡ length v.counts = ap (λ (u : Counters). length u.counts) view in
    ap (with_rows threshold window) (with_items_is rings made same ∙ rounded-all i made v.counts are (omega (arith, past, long)))
    ∙ ap (λ (u : Counters). record u { counts = map next_row v.counts }) view

-- counters without a note

abbrev pub row : ℕ → List ℕ
row w = replicate w 0

pub begun-counted : (t w n : ℕ) → 1 ≤ t → t ≤ threshold_limit → 1 ≤ w → w ≤ window_limit → IsCounted (begun t w n)
begun-counted t w n some low some_rounds within =
    let row : List ℕ = replicate w 0 in
    let none : sum row ≡ w * 0 = sum_by-replicate (λ x. x) w 0 in
    record {
      low = low;
      some_rounds = some_rounds;
      rounds_within = within;
      rows = All-replicate (IsRow t w) n row (record { whole = length-replicate w 0; below = omega arith });
    }

pub begun-stands : (t w n : ℕ) → StandsFor [] (begun t w n)
begun-stands t w n =
    let row : List ℕ = replicate w 0 in
    record {
      each = λ f k f_in in_window. ap (λ (r : List ℕ). get_or r k 0) (get_or-replicate n f row [] (omega (arith, f_in, length-replicate n row))) ∙ get_or-replicate w k 0 0 in_window;
    }

-- one row more has been made
pub begun-push : (w i : ℕ) (rows new : List (List ℕ)) (y : List ℕ) → rows ≡ replicate i (replicate w 0) → y ≡ replicate w 0 → new ≡ rows ++ y ∷ []
    → new ≡ replicate (i + 1) (replicate w 0)
begun-push w i rows new y are is next =
    let row : List ℕ = replicate w 0 in
    next ∙ ap (λ (l : List (List ℕ)). l ++ y ∷ []) are ∙ ap (λ (r : List ℕ). replicate i row ++ r ∷ []) is ∙ replicate-append-replicate i 1 row

-- all rows have been made anew
pub begun-whole : {Z : Type 0} (t w i n : ℕ) (rings : Vec (List ℕ) Z) (made xs : List (List ℕ)) → made ≡ replicate i (replicate w 0) ++ drop i xs → length xs ≤ n → i ≡ n
    → length made ≡ rings.len → with_rows t w (with_items rings made).items ≡ begun t w n
begun-whole t w i n rings made xs are past end same =
    let row : List ℕ = replicate w 0 in
    ap (with_rows t w)
    (with_items_is rings made same ∙ are ∙ ap (λ (l : List (List ℕ)). replicate i row ++ l) (drop_all i xs (omega arith)) ∙ append-nil (replicate i row) ∙ ap (λ (k : ℕ). replicate k row) end)
