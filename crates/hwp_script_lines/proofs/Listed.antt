-- The lists of all kinds of step and of all first words, and the place of each.
use Rattle.std.proofs.Common.{ℕ, ◌≡◌, ◌⊎◌, inl, inr, ◌<◌, List, [], ◌∷◌, get_or, refl, arith}
use Rattle.std.proofs.Common.{◌≤◌, ap, sym, ◌∙◌}
use Rattle.hwp_script_lines.specs.Grammar.{keyword_text, command_text}
use Rattle.hwp_script_lines.proofs.Searches.{IsNoneOf, none-at}
use Rattle.hwp_script_words.specs.hwp_geom.declared.Kind.{Kind}
use Rattle.hwp_script_words.specs.hwp_geom.declared.Kind.TheVariants as kinds
use Rattle.hwp_script_lines.specs.declared.keywords.Keyword.{Keyword}
use Rattle.hwp_script_lines.specs.declared.keywords.CommandWord.{CommandWord}
use Rattle.hwp_script_lines.specs.declared.keywords.Keyword.TheVariants as keywords
use Rattle.hwp_script_lines.specs.declared.keywords.CommandWord.TheVariants as words

abbrev pub all_kinds : List Kind
all_kinds =
    kinds.LoadPte ∷ kinds.LoadCache ∷ kinds.LoadFrame ∷ kinds.LoadAvail ∷ kinds.LoadFree ∷ kinds.LoadBad ∷ kinds.LoadProc ∷
    kinds.LoadPolicy ∷ kinds.LoadStop ∷ kinds.LoadCount ∷ kinds.Reserve ∷ kinds.TakeBit ∷ kinds.GiveBit ∷ kinds.Unreserve ∷ kinds.Adopt ∷
    kinds.GetRef ∷ kinds.PutRef ∷ kinds.LockFrame ∷ kinds.UnlockFrame ∷ kinds.Retire ∷ kinds.Revive ∷ kinds.SetOwner ∷ kinds.LockPage ∷
    kinds.UnlockPage ∷ kinds.SetPte ∷ kinds.SetCache ∷ kinds.Poison ∷ kinds.CountPoison ∷ kinds.Uncount ∷ kinds.Spoil ∷ kinds.Stop ∷
    kinds.GiveUp ∷ kinds.Kill ∷ kinds.SetPolicy ∷ kinds.Lose ∷ kinds.ReportLost ∷ []

-- each kind of step has a place in the list
pub kind_listed : (k : Kind) → (i : ℕ) × (i < 36) × (get_or all_kinds i kinds.LoadPte ≡ k)
kind_listed kinds.LoadPte = (0, omega arith, refl)
kind_listed kinds.LoadCache = (1, omega arith, refl)
kind_listed kinds.LoadFrame = (2, omega arith, refl)
kind_listed kinds.LoadAvail = (3, omega arith, refl)
kind_listed kinds.LoadFree = (4, omega arith, refl)
kind_listed kinds.LoadBad = (5, omega arith, refl)
kind_listed kinds.LoadProc = (6, omega arith, refl)
kind_listed kinds.LoadPolicy = (7, omega arith, refl)
kind_listed kinds.LoadStop = (8, omega arith, refl)
kind_listed kinds.LoadCount = (9, omega arith, refl)
kind_listed kinds.Reserve = (10, omega arith, refl)
kind_listed kinds.TakeBit = (11, omega arith, refl)
kind_listed kinds.GiveBit = (12, omega arith, refl)
kind_listed kinds.Unreserve = (13, omega arith, refl)
kind_listed kinds.Adopt = (14, omega arith, refl)
kind_listed kinds.GetRef = (15, omega arith, refl)
kind_listed kinds.PutRef = (16, omega arith, refl)
kind_listed kinds.LockFrame = (17, omega arith, refl)
kind_listed kinds.UnlockFrame = (18, omega arith, refl)
kind_listed kinds.Retire = (19, omega arith, refl)
kind_listed kinds.Revive = (20, omega arith, refl)
kind_listed kinds.SetOwner = (21, omega arith, refl)
kind_listed kinds.LockPage = (22, omega arith, refl)
kind_listed kinds.UnlockPage = (23, omega arith, refl)
kind_listed kinds.SetPte = (24, omega arith, refl)
kind_listed kinds.SetCache = (25, omega arith, refl)
kind_listed kinds.Poison = (26, omega arith, refl)
kind_listed kinds.CountPoison = (27, omega arith, refl)
kind_listed kinds.Uncount = (28, omega arith, refl)
kind_listed kinds.Spoil = (29, omega arith, refl)
kind_listed kinds.Stop = (30, omega arith, refl)
kind_listed kinds.GiveUp = (31, omega arith, refl)
kind_listed kinds.Kill = (32, omega arith, refl)
kind_listed kinds.SetPolicy = (33, omega arith, refl)
kind_listed kinds.Lose = (34, omega arith, refl)
kind_listed kinds.ReportLost = (35, omega arith, refl)

abbrev pub all_words : List CommandWord
all_words =
    words.Load ∷ words.Fetch ∷ words.KLoad ∷ words.Store ∷ words.Free ∷ words.Drop ∷ words.Sync ∷ words.Out ∷ words.Fsync ∷ words.Open ∷ words.Prctl ∷
    words.Bad ∷ words.Weak ∷ words.Scrub ∷ words.Log ∷ words.Raise ∷ words.Inject ∷ words.Soft ∷ words.Unpoison ∷ words.Watch ∷ words.Fork ∷ []

pub word_listed : (w : CommandWord) → (i : ℕ) × (i < 21) × (get_or all_words i words.Load ≡ w)
word_listed words.Load = (0, omega arith, refl)
word_listed words.Fetch = (1, omega arith, refl)
word_listed words.KLoad = (2, omega arith, refl)
word_listed words.Store = (3, omega arith, refl)
word_listed words.Free = (4, omega arith, refl)
word_listed words.Drop = (5, omega arith, refl)
word_listed words.Sync = (6, omega arith, refl)
word_listed words.Out = (7, omega arith, refl)
word_listed words.Fsync = (8, omega arith, refl)
word_listed words.Open = (9, omega arith, refl)
word_listed words.Prctl = (10, omega arith, refl)
word_listed words.Bad = (11, omega arith, refl)
word_listed words.Weak = (12, omega arith, refl)
word_listed words.Scrub = (13, omega arith, refl)
word_listed words.Log = (14, omega arith, refl)
word_listed words.Raise = (15, omega arith, refl)
word_listed words.Inject = (16, omega arith, refl)
word_listed words.Soft = (17, omega arith, refl)
word_listed words.Unpoison = (18, omega arith, refl)
word_listed words.Watch = (19, omega arith, refl)
word_listed words.Fork = (20, omega arith, refl)

abbrev pub all_heads : List Keyword
all_heads =
    keywords.Hwp ∷ keywords.Cpus ∷ keywords.Frames ∷ keywords.Kernel ∷ keywords.Recovery ∷ keywords.Early ∷ keywords.File ∷ keywords.Proc ∷
    keywords.Thread ∷ keywords.Guest ∷ keywords.Page ∷ keywords.Trans ∷ keywords.Cow ∷ keywords.Cpu ∷ keywords.Schedule ∷ keywords.End ∷ []

-- each first word has a place in the list, or is a command's
pub head_listed : (k : Keyword) → ((i : ℕ) × (i < 16) × (get_or all_heads i keywords.Hwp ≡ k)) ⊎ ((w : CommandWord) × (k ≡ keywords.Command w))
head_listed keywords.Hwp = inl (0, omega arith, refl)
head_listed keywords.Cpus = inl (1, omega arith, refl)
head_listed keywords.Frames = inl (2, omega arith, refl)
head_listed keywords.Kernel = inl (3, omega arith, refl)
head_listed keywords.Recovery = inl (4, omega arith, refl)
head_listed keywords.Early = inl (5, omega arith, refl)
head_listed keywords.File = inl (6, omega arith, refl)
head_listed keywords.Proc = inl (7, omega arith, refl)
head_listed keywords.Thread = inl (8, omega arith, refl)
head_listed keywords.Guest = inl (9, omega arith, refl)
head_listed keywords.Page = inl (10, omega arith, refl)
head_listed keywords.Trans = inl (11, omega arith, refl)
head_listed keywords.Cow = inl (12, omega arith, refl)
head_listed keywords.Cpu = inl (13, omega arith, refl)
head_listed keywords.Schedule = inl (14, omega arith, refl)
head_listed keywords.End = inl (15, omega arith, refl)
head_listed (keywords.Command w) = inr (w, refl)

no_head-at : (word : List ℕ) (i : ℕ) → 16 ≤ i → IsNoneOf (λ k. word ≡ keyword_text k) all_heads i → ((w : CommandWord) → word ≡ command_text w → ⊥)
    → (k : Keyword) → word ≡ keyword_text k → ((j : ℕ) × (j < 16) × (get_or all_heads j keywords.Hwp ≡ k)) ⊎ ((w : CommandWord) × (k ≡ keywords.Command w)) → ⊥
no_head-at word i all heads none k e (inl listed) =
    none-at (λ k. word ≡ keyword_text k) all_heads i listed.0 keywords.Hwp (omega arith) heads (omega arith) (e ∙ ap keyword_text (sym listed.2))
no_head-at word i all heads none k e (inr order) = none order.0 (e ∙ ap keyword_text order.1)

-- a word that is neither in the list nor a command's is no first word
pub no_head : (word : List ℕ) (i : ℕ) → 16 ≤ i → IsNoneOf (λ k. word ≡ keyword_text k) all_heads i → ((w : CommandWord) → word ≡ command_text w → ⊥)
    → (k : Keyword) → word ≡ keyword_text k → ⊥
no_head word i all heads none k e = no_head-at word i all heads none k e (head_listed k)
