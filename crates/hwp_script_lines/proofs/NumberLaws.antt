-- The numbers of words, and the command that they are of.
use Rattle.std.proofs.Common.{ℕ, ◌≡◌, ◌≢◌, ◌<◌, ◌+◌, zero, suc, List, [], ◌∷◌, length, get_or, map, Bor, codes, decimal, refl, ap, subst, ◌∙◌, arith}
use Rattle.std.specs.Prelude.{All, ◌⊎◌, ◌≤◌}
use Rattle.std.proofs.lemmas.List.Elements.{All-from_get_or}
use Rattle.hwp_script_words.proofs.PairsLaws.{All-now}
use Rattle.hwp_script_words.specs.hwp_geom.Limits.{thread_limit}
use Rattle.hwp_script_words.specs.Numbers.{IsNumber, IsNumberWord}
use Rattle.hwp_script_lines.specs.Grammar.{command_word, CommandFits, AreCommandWords, IsCommand, IsCommandOver, HasCommandShape, HaveCommandNumbers, raise_word}
use Rattle.hwp_script_lines.specs.Misfits.{AreNumbers, AreMisfit, IsCommandMisfit, IsMisfit, command_with, log_word, number_count}
use Rattle.hwp_script_lines.specs.declared.keywords.CommandWord.{CommandWord}
use Rattle.hwp_script_lines.specs.declared.keywords.CommandWord.TheVariants as words
use Rattle.hwp_script_lines.specs.declared.numbers.Misfit.{Misfit}
use Rattle.hwp_script_lines.specs.declared.numbers.Misfit.TheVariants as misfits
use Rattle.hwp_script_lines.proofs.CommandLaws.{value, value_is, command_at, unfit, over_user, over_kernel}

-- a misfit that is never over a limit, whatever it is to be over one
pub within : (shape numbers over : Type 0) (e : Misfit) → IsMisfit shape numbers ⊥ e → IsMisfit shape numbers over e
within shape numbers over misfits.Unknown h = h
within shape numbers over misfits.BadNumber h = h
within shape numbers over misfits.OverLimit h = absurd h

-- so many numbers, from this place on
abbrev numbers_from : ℕ → ℕ → List ℕ → List ℕ
numbers_from zero i ns = []
numbers_from (suc n) i ns = get_or ns i 0 ∷ numbers_from n (i + 1) ns

words_from : (n i : ℕ) (ws : List (List ℕ)) (ns : List ℕ) → length ws ≡ n → ((k j : ℕ) → k < n → j ≡ i + k → IsNumber (get_or ws k []) (get_or ns j 0))
    → ws ≡ map decimal (numbers_from n i ns)
words_from zero i [] ns l each = refl
words_from zero i (w ∷ ws) ns l each = absurd (omega (arith, l))
words_from (suc n) i [] ns l each = absurd (omega (arith, l))
words_from (suc n) i (w ∷ ws) ns l each =
    let first : w ≡ decimal (get_or ns i 0) = (each 0 i (omega arith) (omega arith)).digits in
    let rest : ws ≡ map decimal (numbers_from n (i + 1) ns) = words_from n (i + 1) ws ns (omega (arith, l)) (λ k j m e. each (suc k) j (omega arith) (omega arith)) in
    ap (λ v. v ∷ ws) first ∙ ap (λ vs. decimal (get_or ns i 0) ∷ vs) rest

pub words_are : (n : ℕ) (ws : List (List ℕ)) (ns : List ℕ) → AreNumbers n ws ns → ws ≡ map decimal (numbers_from n 0 ns)
words_are n ws ns h = words_from n 0 ws ns h.long (λ k j l e. subst (λ m. IsNumber (get_or ws k []) (get_or ns m 0)) (omega arith) (h.each k l))

pub are_numbers : (n : ℕ) (ws : List (List ℕ)) (ns : List ℕ) → AreNumbers n ws ns → All IsNumberWord ws
are_numbers n ws ns h = All-from_get_or IsNumberWord ws [] (λ i l. (get_or ns i 0, h.each i (omega (arith, l, h.long))))

found : (n : ℕ) (ws : List (List ℕ)) (ns : List ℕ) → AreNumbers n ws ns → (k : ℕ) → k < n → value ws k ≡ get_or ns k 0
found n ws ns h k l = value_is ws k (get_or ns k 0) (h.each k l).fits (h.each k l).digits

-- what holds of the first word of a command that has numbers only
record IsPlain (w : CommandWord) (ws : List (List ℕ)) (ns : List ℕ) : Type 0 where
  shape : length ws ≡ number_count w → HasCommandShape w ws
  long : HasCommandShape w ws → length ws ≡ number_count w
  numbers : All IsNumberWord ws → HaveCommandNumbers w ws
  all : HaveCommandNumbers w ws → All IsNumberWord ws
  kind : command_word (command_with w ns) ≡ w
  same : ws ≡ map decimal (numbers_from (number_count w) 0 ns) → AreCommandWords ws (command_with w ns)
  at : ((k : ℕ) → k < number_count w → value ws k ≡ get_or ns k 0) → command_at w ws ≡ command_with w ns

plain : (w : CommandWord) → (w ≢ log_word) × (w ≢ raise_word) → (ws : List (List ℕ)) (ns : List ℕ) → IsPlain w ws ns
plain words.Load d ws ns = record { shape = λ h. h; long = λ h. h; numbers = λ h. h; all = λ h. h; kind = refl; same = λ e. e; at = λ f. rw (f 0 (omega arith), f 1 (omega arith), f 2 (omega arith)) refl }
plain words.Fetch d ws ns = record { shape = λ h. h; long = λ h. h; numbers = λ h. h; all = λ h. h; kind = refl; same = λ e. e; at = λ f. rw (f 0 (omega arith), f 1 (omega arith), f 2 (omega arith)) refl }
plain words.KLoad d ws ns = record { shape = λ h. h; long = λ h. h; numbers = λ h. h; all = λ h. h; kind = refl; same = λ e. e; at = λ f. rw (f 0 (omega arith), f 1 (omega arith), f 2 (omega arith)) refl }
plain words.Store d ws ns = record { shape = λ h. h; long = λ h. h; numbers = λ h. h; all = λ h. h; kind = refl; same = λ e. e; at = λ f. rw (f 0 (omega arith), f 1 (omega arith), f 2 (omega arith), f 3 (omega arith)) refl }
plain words.Free d ws ns = record { shape = λ h. h; long = λ h. h; numbers = λ h. h; all = λ h. h; kind = refl; same = λ e. e; at = λ f. rw (f 0 (omega arith)) refl }
plain words.Drop d ws ns = record { shape = λ h. h; long = λ h. h; numbers = λ h. h; all = λ h. h; kind = refl; same = λ e. e; at = λ f. rw (f 0 (omega arith)) refl }
plain words.Sync d ws ns = record { shape = λ h. h; long = λ h. h; numbers = λ h. h; all = λ h. h; kind = refl; same = λ e. e; at = λ f. rw (f 0 (omega arith)) refl }
plain words.Out d ws ns = record { shape = λ h. h; long = λ h. h; numbers = λ h. h; all = λ h. h; kind = refl; same = λ e. e; at = λ f. rw (f 0 (omega arith)) refl }
plain words.Fsync d ws ns = record { shape = λ h. h; long = λ h. h; numbers = λ h. h; all = λ h. h; kind = refl; same = λ e. e; at = λ f. rw (f 0 (omega arith)) refl }
plain words.Open d ws ns = record { shape = λ h. h; long = λ h. h; numbers = λ h. h; all = λ h. h; kind = refl; same = λ e. e; at = λ f. rw (f 0 (omega arith)) refl }
plain words.Prctl d ws ns = record { shape = λ h. h; long = λ h. h; numbers = λ h. h; all = λ h. h; kind = refl; same = λ e. e; at = λ f. rw (f 0 (omega arith), f 1 (omega arith), f 2 (omega arith), f 3 (omega arith), f 4 (omega arith), f 5 (omega arith)) refl }
plain words.Bad d ws ns = record { shape = λ h. h; long = λ h. h; numbers = λ h. h; all = λ h. h; kind = refl; same = λ e. e; at = λ f. rw (f 0 (omega arith), f 1 (omega arith)) refl }
plain words.Weak d ws ns = record { shape = λ h. h; long = λ h. h; numbers = λ h. h; all = λ h. h; kind = refl; same = λ e. e; at = λ f. rw (f 0 (omega arith), f 1 (omega arith)) refl }
plain words.Scrub d ws ns = record { shape = λ h. h; long = λ h. h; numbers = λ h. h; all = λ h. h; kind = refl; same = λ e. e; at = λ f. rw (f 0 (omega arith), f 1 (omega arith)) refl }
plain words.Inject d ws ns = record { shape = λ h. h; long = λ h. h; numbers = λ h. h; all = λ h. h; kind = refl; same = λ e. e; at = λ f. rw (f 0 (omega arith)) refl }
plain words.Soft d ws ns = record { shape = λ h. h; long = λ h. h; numbers = λ h. h; all = λ h. h; kind = refl; same = λ e. e; at = λ f. rw (f 0 (omega arith)) refl }
plain words.Unpoison d ws ns = record { shape = λ h. h; long = λ h. h; numbers = λ h. h; all = λ h. h; kind = refl; same = λ e. e; at = λ f. rw (f 0 (omega arith)) refl }
plain words.Watch d ws ns = record { shape = λ h. h; long = λ h. h; numbers = λ h. h; all = λ h. h; kind = refl; same = λ e. e; at = λ f. rw (f 0 (omega arith), f 1 (omega arith)) refl }
plain words.Fork d ws ns = record { shape = λ h. h; long = λ h. h; numbers = λ h. h; all = λ h. h; kind = refl; same = λ e. e; at = λ f. rw (f 0 (omega arith), f 1 (omega arith)) refl }
plain words.Log d ws ns = absurd (d.0 refl)
plain words.Raise d ws ns = absurd (d.1 refl)

pub plain_command : (w : CommandWord) → (w ≢ log_word) × (w ≢ raise_word) → (ws : List (List ℕ)) (ns : List ℕ) → AreNumbers (number_count w) ws ns
    → CommandFits (command_with w ns) → IsCommand w ws (command_with w ns)
plain_command w d ws ns h fits =
    let p = plain w d ws ns in record { kind = p.kind; fits = fits; same = p.same (words_are (number_count w) ws ns h) }

pub plain_over : (w : CommandWord) → (w ≢ log_word) × (w ≢ raise_word) → (ws : List (List ℕ)) (ns : List ℕ) → AreNumbers (number_count w) ws ns
    → (CommandFits (command_with w ns) → ⊥) → IsCommandOver w ws
plain_over w d ws ns h none =
    let p = plain w d ws ns in record {
      shaped = p.shape h.long;
      numbers = p.numbers (are_numbers (number_count w) ws ns h);
      none = unfit w ws (λ f. none (subst CommandFits (p.at (found (number_count w) ws ns h)) f));
    }

pub plain_misfit : (w : CommandWord) → (w ≢ log_word) × (w ≢ raise_word) → (ws : List (List ℕ)) (e : Misfit) → AreMisfit IsNumberWord (number_count w) ws e
    → IsCommandMisfit w ws e
plain_misfit w d ws misfits.Unknown h = λ s. h ((plain w d ws []).long s)
plain_misfit w d ws misfits.BadNumber h = let p = plain w d ws [] in (p.shape h.0, λ n. h.1 (p.all n))
plain_misfit w d ws misfits.OverLimit h = absurd h

-- the words behind `user`
pub user_over : (us : List (List ℕ)) (ns : List ℕ) → AreNumbers 3 us ns → (thread_limit ≤ get_or ns 0 0) ⊎ (1 < get_or ns 1 0) ⊎ (1 < get_or ns 2 0)
    → IsCommandOver raise_word (codes "user" ∷ us)
user_over us ns h out =
    over_user (codes "user" ∷ us) us (get_or ns 0 0) (get_or ns 1 0) (get_or ns 2 0) refl
    ((h.each 0 (omega arith)).fits, (h.each 1 (omega arith)).fits, (h.each 2 (omega arith)).fits, words_are 3 us ns h) out

-- the words behind `kernel`
pub kernel_over : (us : List (List ℕ)) (ns : List ℕ) → AreNumbers 2 us ns → (1 < get_or ns 0 0) ⊎ (1 < get_or ns 1 0) → IsCommandOver raise_word (codes "kernel" ∷ us)
kernel_over us ns h out =
    over_kernel (codes "kernel" ∷ us) us (get_or ns 0 0) (get_or ns 1 0) refl ((h.each 0 (omega arith)).fits, (h.each 1 (omega arith)).fits, words_are 2 us ns h) out

-- what is read of the first i words
pub record AreNumbersSoFar (ws : List (List ℕ)) (i : ℕ) (ns : List ℕ) : Type 0 where
  pub room : length ns ≡ 6
  pub each : (k : ℕ) → k < i → IsNumber (get_or ws k []) (get_or ns k 0)

pub numbers-bad : (words : List (Bor (List ℕ))) (i : ℕ) (d : Bor (List ℕ)) → i < length words → ((n : ℕ) → IsNumber (get_or words i d).now n → ⊥)
    → All IsNumberWord (map (λ w. w.now) words) → ⊥
numbers-bad words i d l none all = let n = All-now IsNumberWord words i d l all in none n.0 n.1
