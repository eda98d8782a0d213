-- The tables of frames and pages say what going through all commands and frames says.
use Rattle.std.proofs.Common.{◌≡◌, inl, inr, ℕ, ◌+◌, ◌<◌, ◌==◌, ◌^◌, ◌||◌, Bool, true, false, not, cond, List, [], ◌∷◌, bit_or, fold, get_or, length, replicate, set, refl, sym, ap, ◌∙◌, subst, arith}
use Rattle.std.proofs.lemmas.Bool.{cases_eq, eq-eqb, ne_eqb}
use Rattle.std.proofs.lemmas.List.{get_or-replicate, get_or-set_other, get_or-set_same, length-replicate, length-set}
use Rattle.std.proofs.lemmas.List.Sums.{sum_by-cons}
use Rattle.std.specs.Int.Bits.{or_zero_r}
use Rattle.hwp_check_rules.specs.hwp_geom.declared.Page.{Page}
use Rattle.hwp_check_rules.specs.hwp_script_words.declared.Command.{Command}
use Rattle.hwp_check_rules.specs.hwp_script_words.declared.Command.TheVariants as commands
use Rattle.hwp_check_rules.specs.hwp_report_text.declared.FrameLine.{FrameLine}
use Rattle.hwp_check_rules.specs.hwp_report_text.declared.Whereabouts.{Whereabouts}
use Rattle.hwp_check_rules.specs.hwp_report_text.declared.Whereabouts.TheVariants as places
use Rattle.hwp_check_rules.specs.hwp_law.PageHistory.{is_of}
use Rattle.hwp_check_rules.specs.Faults.{sayers}
use Rattle.hwp_check_state.specs.Frames.{bad_bit, marked_at, said_by, said_with, weak_bit, with_bad, with_bits, with_weak}

-- the lines that are marked of a frame
at-mark : (all : List ℕ) (frame line n : ℕ) → n < length all → get_or (marked_at all frame line) n 0 ≡ bit_or (get_or all n 0) (cond (frame == n) (2 ^ line) 0)
at-mark all frame line n within = elim (cases_eq frame n) [
  | inl same ↦
      let own : get_or (set all n (bit_or (get_or all n 0) (2 ^ line))) n 0 ≡ bit_or (get_or all n 0) (2 ^ line) = get_or-set_same all n (bit_or (get_or all n 0) (2 ^ line)) 0 within in
      subst (λ (f : ℕ). get_or (marked_at all f line) n 0 ≡ bit_or (get_or all n 0) (2 ^ line)) (sym same) own
      ∙ ap (λ (b : Bool). bit_or (get_or all n 0) (cond b (2 ^ line) 0)) (sym (eq-eqb frame n same))
  | inr other ↦
      get_or-set_other all frame n (bit_or (get_or all frame 0) (2 ^ line)) 0 (λ is. other (sym is))
      ∙ sym (or_zero_r (get_or all n 0))
      ∙ ap (λ (b : Bool). bit_or (get_or all n 0) (cond b (2 ^ line) 0)) (sym (ne_eqb frame n other))
]

at-bad : (all : List ℕ) (n : ℕ) (c : Command) → n < length all → get_or (with_bad all c) n 0 ≡ bit_or (get_or all n 0) (bad_bit n c)
at-bad all n (commands.Bad frame line) within = at-mark all frame.0 line n within
at-bad all n c within = sym (or_zero_r (get_or all n 0))

at-weak : (all : List ℕ) (n : ℕ) (c : Command) → n < length all → get_or (with_weak all c) n 0 ≡ bit_or (get_or all n 0) (weak_bit n c)
at-weak all n (commands.Weak frame line) within = at-mark all frame.0 line n within
at-weak all n c within = sym (or_zero_r (get_or all n 0))

as-long-bad : (all : List ℕ) (c : Command) → length (with_bad all c) ≡ length all
as-long-bad all (commands.Bad frame line) = length-set all frame.0 (bit_or (get_or all frame.0 0) (2 ^ line))
as-long-bad all c = refl

as-long-weak : (all : List ℕ) (c : Command) → length (with_weak all c) ≡ length all
as-long-weak all (commands.Weak frame line) = length-set all frame.0 (bit_or (get_or all frame.0 0) (2 ^ line))
as-long-weak all c = refl

all-bad : (all : List ℕ) (n : ℕ) (done : List Command) → n < length all → get_or (fold with_bad all done) n 0 ≡ with_bits (bad_bit n) (get_or all n 0) done
all-bad all n [] within = refl
all-bad all n (c ∷ cs) within =
    all-bad (with_bad all c) n cs (subst (λ (k : ℕ). n < k) (sym (as-long-bad all c)) within) ∙ ap (λ (m : ℕ). with_bits (bad_bit n) m cs) (at-bad all n c within)

all-weak : (all : List ℕ) (n : ℕ) (done : List Command) → n < length all → get_or (fold with_weak all done) n 0 ≡ with_bits (weak_bit n) (get_or all n 0) done
all-weak all n [] within = refl
all-weak all n (c ∷ cs) within =
    all-weak (with_weak all c) n cs (subst (λ (k : ℕ). n < k) (sym (as-long-weak all c)) within) ∙ ap (λ (m : ℕ). with_bits (weak_bit n) m cs) (at-weak all n c within)

zeros : (frames n : ℕ) → n < frames → n < length {A = ℕ} (replicate frames 0)
zeros frames n low = subst (λ (k : ℕ). n < k) (sym (length-replicate {A = ℕ} frames 0)) low

pub marked-bad : (frames n : ℕ) (done : List Command) → n < frames → get_or (fold with_bad (replicate frames 0) done) n 0 ≡ with_bits (bad_bit n) 0 done
marked-bad frames n done low = all-bad (replicate frames 0) n done (zeros frames n low) ∙ ap (λ (m : ℕ). with_bits (bad_bit n) m done) (get_or-replicate {A = ℕ} frames n 0 0 low)

pub marked-weak : (frames n : ℕ) (done : List Command) → n < frames → get_or (fold with_weak (replicate frames 0) done) n 0 ≡ with_bits (weak_bit n) 0 done
marked-weak frames n done low = all-weak (replicate frames 0) n done (zeros frames n low) ∙ ap (λ (m : ℕ). with_bits (weak_bit n) m done) (get_or-replicate {A = ℕ} frames n 0 0 low)

-- which pages are said
abbrev page : ℕ → Page
page p = record { 0 = p }

abbrev step : List Bool → FrameLine → List Bool
step said f = said_with said f.place

as-long-said : (said : List Bool) (place : Whereabouts) → length (said_with said place) ≡ length said
as-long-said said (places.Of other) = length-set said other.0 true
as-long-said said places.Free = refl
as-long-said said places.Kernel = refl
as-long-said said places.Handled = refl

at-said : (said : List Bool) (p : ℕ) (place : Whereabouts) → p < length said → get_or (said_with said place) p false ≡ (is_of (page p) place || get_or said p false)
at-said said p (places.Of other) within = elim (cases_eq other.0 p) [
  | inl same ↦
      subst (λ (o : ℕ). get_or (set said o true) p false ≡ true) (sym same) (get_or-set_same said p true false within)
      ∙ ap (λ (b : Bool). b || get_or said p false) (sym (eq-eqb other.0 p same))
  | inr differs ↦ get_or-set_other said other.0 p true false (λ is. differs (sym is)) ∙ ap (λ (b : Bool). b || get_or said p false) (sym (ne_eqb other.0 p differs))
]
at-said said p places.Free within = refl
at-said said p places.Kernel within = refl
at-said said p places.Handled within = refl

-- one more says a page, or not
or-says : (is had : Bool) (n m : ℕ) → m ≡ cond is 1 0 + n → ((is || had) || not (n == 0)) ≡ (had || not (m == 0))
or-says true true n m more = refl
or-says true false n m more = ap not (sym (ne_eqb m 0 (λ none. absurd (omega (arith, none, more)))))
or-says false true n m more = refl
or-says false false n m more = ap (λ (k : ℕ). not (k == 0)) (let same : n ≡ m = omega (arith, more) in same)

all-said : (said : List Bool) (p : ℕ) (frames : List FrameLine) → p < length said → get_or (fold step said frames) p false ≡ (get_or said p false || not (sayers (page p) frames == 0))
all-said said p [] within = or-none (get_or said p false)
  where
    or-none : (b : Bool) → b ≡ (b || false)
    or-none true = refl
    or-none false = refl
all-said said p (f ∷ fs) within =
    all-said (said_with said f.place) p fs (subst (λ (k : ℕ). p < k) (sym (as-long-said said f.place)) within)
    ∙ ap (λ (b : Bool). b || not (sayers (page p) fs == 0)) (at-said said p f.place within)
    ∙ or-says (is_of (page p) f.place) (get_or said p false) (sayers (page p) fs) (sayers (page p) (f ∷ fs)) (sum_by-cons (λ (x : FrameLine). cond (is_of (page p) x.place) 1 0) f fs)

pub said-is : (pages p : ℕ) (frames : List FrameLine) → p < pages → get_or (said_by pages frames) p false ≡ not (sayers (page p) frames == 0)
said-is pages p frames low =
    all-said (replicate pages false) p frames (subst (λ (k : ℕ). p < k) (sym (length-replicate {A = Bool} pages false)) low)
    ∙ ap (λ (b : Bool). b || not (sayers (page p) frames == 0)) (get_or-replicate {A = Bool} pages p false false low)

long-said : (said : List Bool) (frames : List FrameLine) → length (fold step said frames) ≡ length said
long-said said [] = refl
long-said said (f ∷ fs) = long-said (said_with said f.place) fs ∙ as-long-said said f.place

pub said-length : (pages : ℕ) (frames : List FrameLine) → length (said_by pages frames) ≡ pages
said-length pages frames = long-said (replicate pages false) frames ∙ length-replicate {A = Bool} pages false

long-bad : (all : List ℕ) (done : List Command) → length (fold with_bad all done) ≡ length all
long-bad all [] = refl
long-bad all (c ∷ cs) = long-bad (with_bad all c) cs ∙ as-long-bad all c

long-weak : (all : List ℕ) (done : List Command) → length (fold with_weak all done) ≡ length all
long-weak all [] = refl
long-weak all (c ∷ cs) = long-weak (with_weak all c) cs ∙ as-long-weak all c

pub bad-length : (frames : ℕ) (done : List Command) → length (fold with_bad (replicate frames 0) done) ≡ frames
bad-length frames done = long-bad (replicate frames 0) done ∙ length-replicate {A = ℕ} frames 0

pub weak-length : (frames : ℕ) (done : List Command) → length (fold with_weak (replicate frames 0) done) ≡ frames
weak-length frames done = long-weak (replicate frames 0) done ∙ length-replicate {A = ℕ} frames 0
