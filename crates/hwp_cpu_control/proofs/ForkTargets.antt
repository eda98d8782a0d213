-- The threads of a process, one after the other.
use Rattle.std.proofs.Common.{◌≡◌, ◌≢◌, ℕ, zero, suc, ◌+◌, ◌<◌, ◌≤◌, ◌==◌, min, nat_lt, Bool, true, false, cond, List, [], ◌∷◌, ◌++◌, Option, Some, None, length, take, get_or, slice_get, refl, sym, ap, ◌∙◌, arith}
use Rattle.std.proofs.lemmas.Bool.{ltb-true}
use Rattle.std.proofs.lemmas.Option.{get_or_from_slice_get, none-some, same_Some, slice_get-get_or, slice_get_within}
use Rattle.std.proofs.lemmas.List.{get_or-take, length-take, length-take-le, take_more}
use Rattle.hwp_core_rule.specs.hwp_geom.declared.Layout.{Layout}
use Rattle.hwp_core_rule.specs.hwp_geom.declared.Proc.{Proc}
use Rattle.hwp_core_rule.specs.hwp_geom.declared.Thread.{Thread}
use Rattle.hwp_core_rule.specs.hwp_geom.declared.ThreadDecl.{ThreadDecl}
use Rattle.hwp_core_rule.specs.hwp_geom.declared.Who.{Who}
use Rattle.hwp_core_rule.specs.hwp_geom.Limits.{thread_limit}
use Rattle.hwp_cpu_control.specs.declared.fork.Targets.{Targets}
use Rattle.hwp_cpu_control.specs.Forks.{AreTargets, IsTarget, target_at, threads_of}

-- the thread of this number, if it is one
abbrev one : ℕ → Bool → List Thread
one n is = cond is (record { 0 = n } ∷ []) []

-- with one declaration more
threads-more : (process : Proc) (n : ℕ) (ts : List ThreadDecl) (t : ThreadDecl) → threads_of process n (ts ++ t ∷ []) ≡ threads_of process n ts ++ one (n + length ts) (t.process.0 == process.0)
threads-more process n [] t = which (t.process.0 == process.0)
  where
    which : (b : Bool) → one n b ≡ one (n + 0) b
    which b = ap (λ (m : ℕ). one m b) (omega arith)
threads-more process n (x ∷ xs) t = beside (x.process.0 == process.0) (one (n + length (x ∷ xs)) (t.process.0 == process.0)) (threads-more process (n + 1) xs t ∙ ap (λ (m : ℕ). threads_of process (n + 1) xs ++ one m (t.process.0 == process.0)) (omega arith))
  where
    beside : (b : Bool) (rest : List Thread) → threads_of process (n + 1) (xs ++ t ∷ []) ≡ threads_of process (n + 1) xs ++ rest
        → cond b (record { 0 = n } ∷ threads_of process (n + 1) (xs ++ t ∷ [])) (threads_of process (n + 1) (xs ++ t ∷ []))
        ≡ cond b (record { 0 = n } ∷ threads_of process (n + 1) xs) (threads_of process (n + 1) xs) ++ rest
    beside true rest behind = ap (λ (l : List Thread). record { 0 = n } ∷ l) behind
    beside false rest behind = behind

-- with the next one of a list
pub threads-next : (process : Proc) (ts : List ThreadDecl) (i : ℕ) (d : ThreadDecl) (before after : List Thread) → i < length ts → before ≡ threads_of process 0 (take i ts)
    → after ≡ before ++ one i ((get_or ts i d).process.0 == process.0) → after ≡ threads_of process 0 (take (i + 1) ts)
threads-next process ts i d before after inside was is =
    let number : 0 + length (take i ts) ≡ i = let l = length-take-le i ts (omega (arith, inside)) in omega (arith, l) in
    is
    ∙ ap (λ (l : List Thread). l ++ one i ((get_or ts i d).process.0 == process.0)) was
    ∙ ap (λ (m : ℕ). threads_of process 0 (take i ts) ++ one m ((get_or ts i d).process.0 == process.0)) (sym number)
    ∙ sym (threads-more process 0 (take i ts) (get_or ts i d))
    ∙ ap (threads_of process 0) (sym (take_more ts i d inside))

-- a declaration that is read in no list
abbrev pub undeclared : ThreadDecl
undeclared = record { process = record { 0 = 0 }; cpu = record { 0 = 0 }; handler = false }

-- ---- which threads these are

-- a declared thread of the process
record IsNamed (process : Proc) (n : ℕ) (ts : List ThreadDecl) (t : Thread) : Type 0 where
  place : ℕ
  number : t.0 ≡ n + place
  decl : ThreadDecl
  declared : slice_get ts place ≡ Some decl
  of : (decl.process.0 == process.0) ≡ true

-- one declaration further
further : {process : Proc} {n : ℕ} {x : ThreadDecl} {ts : List ThreadDecl} {t : Thread} → IsNamed process (n + 1) ts t → IsNamed process n (x ∷ ts) t
further {process} {n} {x} {ts} {t} is = record { place = suc is.place; number = let e = is.number in omega (arith, e); decl = is.decl; declared = is.declared; of = is.of }

named-at : (process : Proc) (n : ℕ) (ts : List ThreadDecl) (k : ℕ) (t : Thread) → slice_get (threads_of process n ts) k ≡ Some t → IsNamed process n ts t
named-at process n [] k t is = absurd (none-some t is)
named-at process n (x ∷ xs) k t is = which (x.process.0 == process.0) refl k is (λ (i : ℕ) (e : slice_get (threads_of process (n + 1) xs) i ≡ Some t). further {n = n} {x = x} (named-at process (n + 1) xs i t e))
  where
    which : (b : Bool) → (x.process.0 == process.0) ≡ b → (i : ℕ) → slice_get (cond b (record { 0 = n } ∷ threads_of process (n + 1) xs) (threads_of process (n + 1) xs)) i ≡ Some t
        → ((i : ℕ) → slice_get (threads_of process (n + 1) xs) i ≡ Some t → IsNamed process n (x ∷ xs) t) → IsNamed process n (x ∷ xs) t
    which true of zero e rest = record { place = 0; number = let same : n ≡ t.0 = ap (λ (u : Thread). u.0) (same_Some (record { 0 = n }) t e) in omega (arith, same); decl = x; declared = refl; of = of }
    which true of (suc i) e rest = rest i e
    which false of i e rest = rest i e

rising-at : (process : Proc) (n : ℕ) (ts : List ThreadDecl) (i j : ℕ) (t u : Thread) → slice_get (threads_of process n ts) i ≡ Some t → slice_get (threads_of process n ts) j ≡ Some u → i < j → t.0 < u.0
rising-at process n [] i j t u first second less = absurd (none-some t first)
rising-at process n (x ∷ xs) i j t u first second less =
    which (x.process.0 == process.0) i j first second less (λ (i j : ℕ) (e : slice_get (threads_of process (n + 1) xs) i ≡ Some t) (f : slice_get (threads_of process (n + 1) xs) j ≡ Some u) (less : i < j). rising-at process (n + 1) xs i j t u e f less)
  where
    which : (b : Bool) (i j : ℕ) → slice_get (cond b (record { 0 = n } ∷ threads_of process (n + 1) xs) (threads_of process (n + 1) xs)) i ≡ Some t
        → slice_get (cond b (record { 0 = n } ∷ threads_of process (n + 1) xs) (threads_of process (n + 1) xs)) j ≡ Some u → i < j
        → ((i j : ℕ) → slice_get (threads_of process (n + 1) xs) i ≡ Some t → slice_get (threads_of process (n + 1) xs) j ≡ Some u → i < j → t.0 < u.0) → t.0 < u.0
    which true zero zero e f less rest = omega (arith, less)
    which true zero (suc j) e f less rest =
        let same : n ≡ t.0 = ap (λ (u : Thread). u.0) (same_Some (record { 0 = n }) t e) in
        let above = (named-at process (n + 1) xs j u f).number in omega (arith, same, above)
    which true (suc i) zero e f less rest = omega (arith, less)
    which true (suc i) (suc j) e f less rest = rest i j e f (omega (arith, less))
    which false i j e f less rest = rest i j e f less

-- the one before which there are so many is one of those that are listed
listed-at : (targets : Targets) (n : ℕ) (t : Thread) → target_at targets n ≡ Some t → slice_get (take targets.count targets.threads) n ≡ Some t
listed-at targets n t is = which (nat_lt n targets.count) refl
  where
    which : (b : Bool) → nat_lt n targets.count ≡ b → slice_get (take targets.count targets.threads) n ≡ Some t
    which false more = absurd (none-some t (sym (ap (λ (b : Bool). cond b (slice_get targets.threads n) None) more) ∙ is))
    which true less =
        let there : slice_get targets.threads n ≡ Some t = sym (ap (λ (b : Bool). cond b (slice_get targets.threads n) None) less) ∙ is in
        let within : n < length targets.threads = slice_get_within targets.threads n t there in
        let before : n < targets.count = ltb-true n targets.count less in
        let few : length (take targets.count targets.threads) ≡ min targets.count (length targets.threads) = length-take targets.count targets.threads in
        slice_get-get_or (take targets.count targets.threads) n t (omega (arith, few, within, before))
        ∙ ap Some (get_or-take targets.count targets.threads n t before ∙ get_or_from_slice_get targets.threads n t t there)

-- and is a declared thread of the process
pub of-child : (layout : Layout) (process : Proc) (targets : Targets) → take targets.count targets.threads ≡ threads_of process 0 layout.threads → (n : ℕ) (t : Thread) → target_at targets n ≡ Some t
    → (d : ThreadDecl) × (slice_get layout.threads t.0 ≡ Some d) × ((d.process.0 == process.0) ≡ true)
of-child layout process targets listed n t is =
    let named = named-at process 0 layout.threads n t (ap (λ (l : List Thread). slice_get l n) (sym listed) ∙ listed-at targets n t is) in
    let number : named.place ≡ t.0 = let e = named.number in omega (arith, e) in
    (named.decl, ap (λ (m : ℕ). slice_get layout.threads m) (sym number) ∙ named.declared, named.of)

-- the threads of a process that are all of the processor, and of which the thread that forks is none, are such as a fork needs
pub are-targets : (layout : Layout) (who : Who) (thread : Thread) (process : Proc) (targets : Targets) → targets.count ≤ thread_limit → length targets.threads ≡ thread_limit → take targets.count targets.threads ≡ threads_of process 0 layout.threads
    → ((t : Thread) (d : ThreadDecl) → slice_get layout.threads t.0 ≡ Some d → (d.process.0 == process.0) ≡ true → (d.cpu ≡ who.cpu) × (t.0 ≢ thread.0)) → AreTargets layout who thread targets
are-targets layout who thread process targets few room listed home = record { few = few; room = room; each = each; rising = rising }
  where
    at : (n : ℕ) (t : Thread) → target_at targets n ≡ Some t → slice_get (threads_of process 0 layout.threads) n ≡ Some t
    at n t is = ap (λ (l : List Thread). slice_get l n) (sym listed) ∙ listed-at targets n t is

    each : (n : ℕ) (t : Thread) → target_at targets n ≡ Some t → IsTarget layout who thread t
    each n t is =
        let child = of-child layout process targets listed n t is in
        let own = home t child.0 child.1 child.2 in
        record { decl = child.0; declared = child.1; own = own.0; apart = own.1 }

    rising : (m n : ℕ) (t u : Thread) → target_at targets m ≡ Some t → target_at targets n ≡ Some u → m < n → t.0 < u.0
    rising m n t u first second less = rising-at process 0 layout.threads m n t u (at m t first) (at n u second) less
