-- The commands that tell numbers of handles, and those of a collector, are acted on as they are.
use Rattle.std.proofs.Common.{◌≡◌, ℕ, zero, suc, List, [], ◌∷◌, ◌++◌, Option, Some, None, slice_get, take, refl, sym, ap, ◌∙◌}
use Rattle.std.specs.List.{zip}
use Rattle.std.proofs.lemmas.Option.{none-some, same_Some}
use Rattle.hwp_law.specs.hwp_geom.declared.FileNo.{FileNo}
use Rattle.hwp_law.specs.hwp_geom.declared.Layout.{Layout}
use Rattle.hwp_law.specs.hwp_script_words.declared.Command.{Command}
use Rattle.hwp_law.specs.hwp_script_words.declared.Command.TheVariants as commands
use Rattle.hwp_law.specs.hwp_report_text.declared.Answer.{Answer}
use Rattle.hwp_law.specs.Cows.{acting}
use Rattle.hwp_law.specs.Acting.{acting_from}
use Rattle.hwp_law.specs.Losses.{number_by, numbers_after, tells_number}

-- ---- one command

pub number-acted : (layout : Layout) (earlier : List (Command × Answer)) (file : FileNo) (n : ℕ) (c : Command) (a : Answer) → number_by file n (acting layout earlier c) a ≡ number_by file n c a
number-acted layout earlier file n (commands.Load thread slot line) a = refl
number-acted layout earlier file n (commands.Fetch thread slot line) a = refl
number-acted layout earlier file n (commands.KLoad thread slot line) a = refl
number-acted layout earlier file n (commands.Store thread slot line word) a = refl
number-acted layout earlier file n (commands.Free slot) a = refl
number-acted layout earlier file n c a = refl

pub tells-acted : (layout : Layout) (earlier : List (Command × Answer)) (file : FileNo) (c : Command) (a : Answer) → tells_number file (acting layout earlier c) a ≡ tells_number file c a
tells-acted layout earlier file (commands.Load thread slot line) a = refl
tells-acted layout earlier file (commands.Fetch thread slot line) a = refl
tells-acted layout earlier file (commands.KLoad thread slot line) a = refl
tells-acted layout earlier file (commands.Store thread slot line word) a = refl
tells-acted layout earlier file (commands.Free slot) a = refl
tells-acted layout earlier file c a = refl

-- ---- the commands of a processor

pub numbers-acted : (layout : Layout) (earlier : List (Command × Answer)) (file : FileNo) (n : ℕ) (list : List Command) (given : List Answer) (k : ℕ) → numbers_after file n (take k (zip (acting_from layout earlier list given) given)) ≡ numbers_after file n (take k (zip list given))
numbers-acted layout earlier file n list given zero = refl
numbers-acted layout earlier file n [] given (suc k) = refl
numbers-acted layout earlier file n (c ∷ cs) [] (suc k) = refl
numbers-acted layout earlier file n (c ∷ cs) (a ∷ given) (suc k) =
    ap (λ (m : ℕ). numbers_after file m (take k (zip (acting_from layout (earlier ++ (c, a) ∷ []) cs given) given))) (number-acted layout earlier file n c a)
    ∙ numbers-acted layout (earlier ++ (c, a) ∷ []) file (number_by file n c a) cs given k

-- the pair that stands at a place
pub record ActedPair (layout : Layout) (file : FileNo) (list : List Command) (given : List Answer) (acted : List (Command × Answer)) (i : ℕ) (p : Command × Answer) : Type 0 where
  pub pair : Command × Answer
  pub there : slice_get {X = Command × Answer} acted i ≡ Some pair
  pub tells : tells_number file pair.0 pair.1 ≡ tells_number file p.0 p.1

pub pair-acted : (layout : Layout) (earlier : List (Command × Answer)) (file : FileNo) (list : List Command) (given : List Answer) (i : ℕ) (p : Command × Answer) → slice_get {X = Command × Answer} (zip list given) i ≡ Some p
    → ActedPair layout file list given (zip (acting_from layout earlier list given) given) i p
pair-acted layout earlier file [] given i p is = absurd (none-some {A = Command × Answer} p is)
pair-acted layout earlier file (c ∷ cs) [] i p is = absurd (none-some {A = Command × Answer} p is)
pair-acted layout earlier file (c ∷ cs) (a ∷ given) zero p is =
    record { pair = (acting layout earlier c, a); there = refl; tells = tells-acted layout earlier file c a ∙ ap (λ (q : Command × Answer). tells_number file q.0 q.1) (same_Some {A = Command × Answer} (c, a) p is) }
pair-acted layout earlier file (c ∷ cs) (a ∷ given) (suc i) p is =
    let rest = pair-acted layout (earlier ++ (c, a) ∷ []) file cs given i p is in
    record { pair = rest.pair; there = rest.there; tells = rest.tells }
