-- The lines of the schedule: each is clean, and together they have all words.
use Rattle.std.proofs.Common.{ℕ, ◌≡◌, ◌<◌, ◌≤◌, ◌+◌, ◌-◌, ◌*◌, ◌++◌, min, List, [], ◌∷◌, length, map, take, drop, Option, None, zero, suc, ap, ◌∙◌, refl, arith}
use Rattle.std.specs.Prelude.{All}
use Rattle.std.specs.List.{range_with_len}
use Rattle.std.proofs.lemmas.List.{length-take, length-drop}
use Rattle.std.proofs.lemmas.List.Elements.{All-head, All-tail, All-take, All-drop, All-weaker}
use Rattle.hwp_script_read.specs.hwp_geom.Limits.{cpu_limit, cpu_limit_of}
use Rattle.hwp_script_read.specs.hwp_script_lines.declared.ScriptLine.{ScriptLine}
use Rattle.hwp_script_read.specs.hwp_script_lines.declared.Go.{Go}
use Rattle.hwp_script_read.specs.hwp_script_words.Limits.{schedule_limit}
use Rattle.hwp_script_read.specs.Context.{version_in, cpus_in, go_in}
use Rattle.hwp_script_read.specs.Reasons.{IsClean, top_cpu}
use Rattle.hwp_script_read.proofs.CleanLaws.{cpu_most}
use Rattle.hwp_script.specs.Text.{go_row, rows_of}
use Rattle.hwp_script.proofs.WordsPut.{IsWhole}
use Rattle.hwp_script.proofs.CleanPut.{put_schedule}
use Rattle.hwp_script.proofs.Sections.{Known, IsMade, go_more, go_more-is, made_push, made_then, made_nil, placed}

-- a word of the schedule names one of n processors
abbrev pub IsGoBelow : ℕ → Go → Type 0
IsGoBelow n g = g.cpu.0 < n

turns_below : (n : ℕ) (gs : List Go) → 0 < n → All (IsGoBelow n) gs → top_cpu gs < n
turns_below n [] some h = some
turns_below n (g ∷ gs) some h =
    omega (arith, All-head (IsGoBelow n) g gs h, turns_below n gs some (All-tail (IsGoBelow n) g gs h))

turns_low : (n : ℕ) (gs : List Go) → n ≤ cpu_limit → All (IsGoBelow n) gs → All (λ (t : Go). t.cpu.0 < cpu_limit) gs
turns_low n gs few h = All-weaker (IsGoBelow n) (λ (t : Go). t.cpu.0 < cpu_limit) (λ t l. omega (arith, few, l)) gs h

-- the words up to a place and those behind it
nothing_taken : {A : Type 0} (m : ℕ) → take {A = A} m [] ≡ []
nothing_taken zero = refl
nothing_taken (suc m) = refl

take_two : {A : Type 0} (n m : ℕ) (xs : List A) → take n xs ++ take m (drop n xs) ≡ take (n + m) xs
take_two zero m xs = let e : zero + m ≡ m = omega arith in rw e refl
take_two (suc n) m [] = let e : suc n + m ≡ suc (n + m) = omega arith in rw e (nothing_taken m)
take_two (suc n) m (x ∷ xs) = let e : suc n + m ≡ suc (n + m) = omega arith in rw e (ap (λ t. x ∷ t) (take_two n m xs))

row_after : (go : List Go) (i : ℕ) → go_more (take (i * 50) go) (take 50 (drop (i * 50) go)) ≡ take ((i + 1) * 50) go
row_after go i =
    let e : i * 50 + 50 ≡ (i + 1) * 50 = omega arith in
    go_more-is (take (i * 50) go) (take 50 (drop (i * 50) go))
    ∙ take_two (i * 50) 50 go ∙ ap (λ n. take n go) e

-- where the next line stands behind n lines of the schedule
abbrev pub placed_rows : Option ℕ → ℕ → Option ℕ
placed_rows p zero = p
placed_rows p (suc n) = placed_rows None n

pub made_rows : {fs : List ScriptLine} (k : Known) (go : List Go) (p : Option ℕ) (i n : ℕ) → IsMade fs 14 (record k { place = p; go = take (i * 50) go })
    → 0 < k.cpus → 0 < k.frames → k.cpus ≤ cpu_limit_of k.version → All (IsGoBelow k.cpus) go → length go ≤ schedule_limit → i + n ≤ rows_of (length go)
    → IsMade (fs ++ map (go_row go) (range_with_len i n)) 14 (record k { place = placed_rows p n; go = take ((i + n) * 50) go })
made_rows k go p i zero h some_c some_f few_c own few l = let e : i + zero ≡ i = omega arith in rw e (made_nil h)
made_rows {fs} k go p i (suc n) h some_c some_f few_c own few l =
    let row = take 50 (drop (i * 50) go) in
    let cpus : cpus_in fs ≡ k.cpus = ap (λ (x : Known). x.cpus) h.same in
    let version : version_in fs ≡ k.version = ap (λ (x : Known). x.version) h.same in
    let few_any : k.cpus ≤ cpu_limit = let most : cpu_limit_of k.version ≤ cpu_limit = cpu_most k.version in omega (arith, few_c, most) in
    let so_far : go_in fs ≡ take (i * 50) go = ap (λ (x : Known). x.go) h.same in
    let own_row : All (IsGoBelow k.cpus) row = All-take (IsGoBelow k.cpus) 50 (drop (i * 50) go) (All-drop (IsGoBelow k.cpus) (i * 50) go own) in
    let below : top_cpu row < k.cpus = turns_below k.cpus row some_c own_row in
    let many : length row ≡ min 50 (length go - i * 50) = length-take 50 (drop (i * 50) go) ∙ ap (min 50) (length-drop (i * 50) go) in
    let before : length (take (i * 50) go) ≡ min (i * 50) (length go) = length-take (i * 50) go in
    let inside : i * 50 < length go = omega arith in
    let clean : IsClean fs (go_row go i) = put_schedule h.some (record {
      placed = placed h some_c some_f;
      few = rw (so_far, before, many) (omega arith);
      low = rw version (omega (arith, below, few_c));
      cpus = rw cpus below;
    }) in
    let whole : IsWhole (go_row go i) = record { fits = rw many (omega arith); turns = turns_low k.cpus row few_any own_row } in
    let made : IsMade (fs ++ go_row go i ∷ []) 14 (record k { place = None; go = take ((i + 1) * 50) go }) =
    rw (row_after go i) at (made_push (go_row go i) h (omega arith) whole clean) in
    let rest = made_rows {fs = fs ++ go_row go i ∷ []} k go None (i + 1) n made some_c some_f few_c own few (omega arith) in
    let e : i + suc n ≡ i + 1 + n = omega arith in
    rw e (made_then fs (go_row go i) (map (go_row go) (range_with_len (i + 1) n)) rest)
