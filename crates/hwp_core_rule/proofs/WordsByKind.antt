-- The words and their one list: a word read or set by its place is that of its kind.
use Rattle.std.proofs.Common.{◌≡◌, ◌≢◌, ℕ, suc, zero, ◌+◌, ◌<◌, ◌≤◌, List, [], ◌∷◌, Some, length, take, drop, set, slice_get, slice_index, refl, ap, ◌∙◌, arith}
use Rattle.std.proofs.lemmas.List.{get_or-set_same, get_or-set_other, drop-set-add, drop-set-lt, take-set-le, get_or-take, get_or-drop, set-get_or}
use Rattle.std.proofs.lemmas.Option.{slice_get-get_or}
use Rattle.hwp_page.specs.hwp_geom.declared.Layout.{Layout}
use Rattle.hwp_core_rule.specs.declared.shared_word.SharedWord.{SharedWord}
use Rattle.hwp_core_rule.specs.Words.{Words, words_of, segment, index, read, put, size, IsPlace, free_words, trans_from, caches_from, pages_from, frees_from, available_at, bads_from, weaks_from, counter_at, processes_from, policies_from, losses_from, stop_at}
use Rattle.hwp_core_rule.specs.declared.shared_word.SharedWord.TheVariants as places

take-set : (n i : ℕ) (ws : List ℕ) (x : ℕ) → take n (set ws i x) ≡ set (take n ws) i x
take-set zero i ws x = refl
take-set (suc n) i [] x = refl
take-set (suc n) zero (w ∷ ws) x = refl
take-set (suc n) (suc i) (w ∷ ws) x = ap (λ (l : List ℕ). w ∷ l) (take-set n i ws x)

segment-in : (from count j : ℕ) (ws : List ℕ) (x : ℕ) → segment from count (set ws (from + j) x) ≡ set (segment from count ws) j x
segment-in from count j ws x = ap (take count) (drop-set-add from ws j x) ∙ take-set count j (drop from ws) x

-- a word before the segment, or after it
segment-after : (from count i : ℕ) (ws : List ℕ) (x : ℕ) → i < from → segment from count (set ws i x) ≡ segment from count ws
segment-after from count i ws x less = ap (take count) (drop-set-lt from ws i x less)

segment-before : (from count i : ℕ) (ws : List ℕ) (x : ℕ) → from + count ≤ i → segment from count (set ws i x) ≡ segment from count ws
segment-before zero count i ws x past = let past_it : count ≤ i = omega arith in take-set-le count ws i x past_it
segment-before (suc from) count i [] x past = refl
segment-before (suc from) count zero (w ∷ ws) x past = absurd (omega arith)
segment-before (suc from) count (suc i) (w ∷ ws) x past = segment-before from count i ws x (omega arith)

set-same : (ws : List ℕ) (i : ℕ) (x : ℕ) → i < length ws → slice_index (set ws i x) i ≡ x
set-same ws i x less = get_or-set_same ws i x 0 less

set-other : (ws : List ℕ) (i j : ℕ) (x : ℕ) → j ≢ i → slice_index (set ws i x) j ≡ slice_index ws j
set-other ws i j x other = get_or-set_other ws i j x 0 other

segment-at : (from count j : ℕ) (ws : List ℕ) → j < count → slice_index (segment from count ws) j ≡ slice_index ws (from + j)
segment-at from count j ws less = get_or-take count (drop from ws) j 0 less ∙ get_or-drop from ws j 0

-- a word of its kind is one of the board
pub word-there : (words : List ℕ) (number count : ℕ) → length words ≡ count → number < count → slice_get words number ≡ Some (slice_index words number)
word-there words number count wide inside = slice_get-get_or words number 0 (omega arith)

-- the place of a word is one of all words
pub index-within : (layout : Layout) (place : SharedWord) → IsPlace layout place → index layout place < size layout
index-within layout (places.Frame frame) is = omega (arith, is)
index-within layout (places.Trans slot) is = omega (arith, is)
index-within layout (places.Cache page) is = omega (arith, is)
index-within layout (places.Page page) is = omega (arith, is)
index-within layout (places.Free number) is = omega (arith, is)
index-within layout places.Available is = omega arith
index-within layout (places.Bad frame) is = omega (arith, is)
index-within layout (places.Weak frame) is = omega (arith, is)
index-within layout places.Counter is = omega arith
index-within layout (places.Process process) is = omega (arith, is)
index-within layout (places.Policy thread) is = omega (arith, is)
index-within layout (places.Loss file) is = omega (arith, is)
index-within layout places.Stop is = omega arith

-- the word of a place written to it again
pub same-put : (place : SharedWord) (w : Words) → put place (read place w) w ≡ w
same-put (places.Frame frame) w = λ i. record w { frames = set-get_or w.frames frame.0 0 i }
same-put (places.Trans slot) w = λ i. record w { trans = set-get_or w.trans slot.0 0 i }
same-put (places.Cache page) w = λ i. record w { caches = set-get_or w.caches page.0 0 i }
same-put (places.Page page) w = λ i. record w { pages = set-get_or w.pages page.0 0 i }
same-put (places.Free number) w = λ i. record w { frees = set-get_or w.frees number 0 i }
same-put places.Available w = refl
same-put (places.Bad frame) w = λ i. record w { bads = set-get_or w.bads frame.0 0 i }
same-put (places.Weak frame) w = λ i. record w { weaks = set-get_or w.weaks frame.0 0 i }
same-put places.Counter w = refl
same-put (places.Process process) w = λ i. record w { processes = set-get_or w.processes process.0 0 i }
same-put (places.Policy thread) w = λ i. record w { policies = set-get_or w.policies thread.0 0 i }
same-put (places.Loss file) w = λ i. record w { losses = set-get_or w.losses file.0 0 i }
same-put places.Stop w = refl

-- the word of a place is the one that stands at its number
pub words-read : (layout : Layout) (words : List ℕ) (place : SharedWord) → IsPlace layout place → read place (words_of layout words) ≡ slice_index words (index layout place)
words-read layout words (places.Frame frame) inside = segment-at 0 layout.frames frame.0 words inside ∙ ap (slice_index words) (omega arith)
words-read layout words (places.Trans slot) inside = segment-at (trans_from layout) (length layout.trans) slot.0 words inside
words-read layout words (places.Cache page) inside = segment-at (caches_from layout) (length layout.pages) page.0 words inside
words-read layout words (places.Page page) inside = segment-at (pages_from layout) (length layout.pages) page.0 words inside
words-read layout words (places.Free number) inside = segment-at (frees_from layout) (free_words layout) number words inside
words-read layout words places.Available inside = refl
words-read layout words (places.Bad frame) inside = segment-at (bads_from layout) layout.frames frame.0 words inside
words-read layout words (places.Weak frame) inside = segment-at (weaks_from layout) layout.frames frame.0 words inside
words-read layout words places.Counter inside = refl
words-read layout words (places.Process process) inside = segment-at (processes_from layout) layout.procs process.0 words inside
words-read layout words (places.Policy thread) inside = segment-at (policies_from layout) (length layout.threads) thread.0 words inside
words-read layout words (places.Loss file) inside = segment-at (losses_from layout) layout.files file.0 words inside
words-read layout words places.Stop inside = refl

-- a word set at the number of its place is set in its kind, and no other changes
pub words-put : (layout : Layout) (words : List ℕ) (place : SharedWord) (x : ℕ) → length words ≡ size layout → IsPlace layout place
    → words_of layout (set words (index layout place) x) ≡ put place x (words_of layout words)
words-put layout words (places.Frame frame) x wide inside = λ i. record {
  frames = take-set layout.frames frame.0 words x i;
  trans = segment-after (trans_from layout) (length layout.trans) frame.0 words x (omega arith) i;
  caches = segment-after (caches_from layout) (length layout.pages) frame.0 words x (omega arith) i;
  pages = segment-after (pages_from layout) (length layout.pages) frame.0 words x (omega arith) i;
  frees = segment-after (frees_from layout) (free_words layout) frame.0 words x (omega arith) i;
  available = set-other words frame.0 (available_at layout) x (λ e. absurd (omega arith)) i;
  bads = segment-after (bads_from layout) (layout.frames) frame.0 words x (omega arith) i;
  weaks = segment-after (weaks_from layout) (layout.frames) frame.0 words x (omega arith) i;
  counter = set-other words frame.0 (counter_at layout) x (λ e. absurd (omega arith)) i;
  processes = segment-after (processes_from layout) (layout.procs) frame.0 words x (omega arith) i;
  policies = segment-after (policies_from layout) (length layout.threads) frame.0 words x (omega arith) i;
  losses = segment-after (losses_from layout) (layout.files) frame.0 words x (omega arith) i;
  stop = set-other words frame.0 (stop_at layout) x (λ e. absurd (omega arith)) i;
}
words-put layout words (places.Trans slot) x wide inside = λ i. record {
  frames = segment-before (0) (layout.frames) (trans_from layout + slot.0) words x (omega arith) i;
  trans = segment-in (trans_from layout) (length layout.trans) slot.0 words x i;
  caches = segment-after (caches_from layout) (length layout.pages) (trans_from layout + slot.0) words x (omega arith) i;
  pages = segment-after (pages_from layout) (length layout.pages) (trans_from layout + slot.0) words x (omega arith) i;
  frees = segment-after (frees_from layout) (free_words layout) (trans_from layout + slot.0) words x (omega arith) i;
  available = set-other words (trans_from layout + slot.0) (available_at layout) x (λ e. absurd (omega arith)) i;
  bads = segment-after (bads_from layout) (layout.frames) (trans_from layout + slot.0) words x (omega arith) i;
  weaks = segment-after (weaks_from layout) (layout.frames) (trans_from layout + slot.0) words x (omega arith) i;
  counter = set-other words (trans_from layout + slot.0) (counter_at layout) x (λ e. absurd (omega arith)) i;
  processes = segment-after (processes_from layout) (layout.procs) (trans_from layout + slot.0) words x (omega arith) i;
  policies = segment-after (policies_from layout) (length layout.threads) (trans_from layout + slot.0) words x (omega arith) i;
  losses = segment-after (losses_from layout) (layout.files) (trans_from layout + slot.0) words x (omega arith) i;
  stop = set-other words (trans_from layout + slot.0) (stop_at layout) x (λ e. absurd (omega arith)) i;
}
words-put layout words (places.Cache page) x wide inside = λ i. record {
  frames = segment-before (0) (layout.frames) (caches_from layout + page.0) words x (omega arith) i;
  trans = segment-before (trans_from layout) (length layout.trans) (caches_from layout + page.0) words x (omega arith) i;
  caches = segment-in (caches_from layout) (length layout.pages) page.0 words x i;
  pages = segment-after (pages_from layout) (length layout.pages) (caches_from layout + page.0) words x (omega arith) i;
  frees = segment-after (frees_from layout) (free_words layout) (caches_from layout + page.0) words x (omega arith) i;
  available = set-other words (caches_from layout + page.0) (available_at layout) x (λ e. absurd (omega arith)) i;
  bads = segment-after (bads_from layout) (layout.frames) (caches_from layout + page.0) words x (omega arith) i;
  weaks = segment-after (weaks_from layout) (layout.frames) (caches_from layout + page.0) words x (omega arith) i;
  counter = set-other words (caches_from layout + page.0) (counter_at layout) x (λ e. absurd (omega arith)) i;
  processes = segment-after (processes_from layout) (layout.procs) (caches_from layout + page.0) words x (omega arith) i;
  policies = segment-after (policies_from layout) (length layout.threads) (caches_from layout + page.0) words x (omega arith) i;
  losses = segment-after (losses_from layout) (layout.files) (caches_from layout + page.0) words x (omega arith) i;
  stop = set-other words (caches_from layout + page.0) (stop_at layout) x (λ e. absurd (omega arith)) i;
}
words-put layout words (places.Page page) x wide inside = λ i. record {
  frames = segment-before (0) (layout.frames) (pages_from layout + page.0) words x (omega arith) i;
  trans = segment-before (trans_from layout) (length layout.trans) (pages_from layout + page.0) words x (omega arith) i;
  caches = segment-before (caches_from layout) (length layout.pages) (pages_from layout + page.0) words x (omega arith) i;
  pages = segment-in (pages_from layout) (length layout.pages) page.0 words x i;
  frees = segment-after (frees_from layout) (free_words layout) (pages_from layout + page.0) words x (omega arith) i;
  available = set-other words (pages_from layout + page.0) (available_at layout) x (λ e. absurd (omega arith)) i;
  bads = segment-after (bads_from layout) (layout.frames) (pages_from layout + page.0) words x (omega arith) i;
  weaks = segment-after (weaks_from layout) (layout.frames) (pages_from layout + page.0) words x (omega arith) i;
  counter = set-other words (pages_from layout + page.0) (counter_at layout) x (λ e. absurd (omega arith)) i;
  processes = segment-after (processes_from layout) (layout.procs) (pages_from layout + page.0) words x (omega arith) i;
  policies = segment-after (policies_from layout) (length layout.threads) (pages_from layout + page.0) words x (omega arith) i;
  losses = segment-after (losses_from layout) (layout.files) (pages_from layout + page.0) words x (omega arith) i;
  stop = set-other words (pages_from layout + page.0) (stop_at layout) x (λ e. absurd (omega arith)) i;
}
words-put layout words (places.Free number) x wide inside = λ i. record {
  frames = segment-before (0) (layout.frames) (frees_from layout + number) words x (omega arith) i;
  trans = segment-before (trans_from layout) (length layout.trans) (frees_from layout + number) words x (omega arith) i;
  caches = segment-before (caches_from layout) (length layout.pages) (frees_from layout + number) words x (omega arith) i;
  pages = segment-before (pages_from layout) (length layout.pages) (frees_from layout + number) words x (omega arith) i;
  frees = segment-in (frees_from layout) (free_words layout) number words x i;
  available = set-other words (frees_from layout + number) (available_at layout) x (λ e. absurd (omega arith)) i;
  bads = segment-after (bads_from layout) (layout.frames) (frees_from layout + number) words x (omega arith) i;
  weaks = segment-after (weaks_from layout) (layout.frames) (frees_from layout + number) words x (omega arith) i;
  counter = set-other words (frees_from layout + number) (counter_at layout) x (λ e. absurd (omega arith)) i;
  processes = segment-after (processes_from layout) (layout.procs) (frees_from layout + number) words x (omega arith) i;
  policies = segment-after (policies_from layout) (length layout.threads) (frees_from layout + number) words x (omega arith) i;
  losses = segment-after (losses_from layout) (layout.files) (frees_from layout + number) words x (omega arith) i;
  stop = set-other words (frees_from layout + number) (stop_at layout) x (λ e. absurd (omega arith)) i;
}
words-put layout words places.Available x wide inside = λ i. record {
  frames = segment-before (0) (layout.frames) (available_at layout) words x (omega arith) i;
  trans = segment-before (trans_from layout) (length layout.trans) (available_at layout) words x (omega arith) i;
  caches = segment-before (caches_from layout) (length layout.pages) (available_at layout) words x (omega arith) i;
  pages = segment-before (pages_from layout) (length layout.pages) (available_at layout) words x (omega arith) i;
  frees = segment-before (frees_from layout) (free_words layout) (available_at layout) words x (omega arith) i;
  available = set-same words (available_at layout) x (omega arith) i;
  bads = segment-after (bads_from layout) (layout.frames) (available_at layout) words x (omega arith) i;
  weaks = segment-after (weaks_from layout) (layout.frames) (available_at layout) words x (omega arith) i;
  counter = set-other words (available_at layout) (counter_at layout) x (λ e. absurd (omega arith)) i;
  processes = segment-after (processes_from layout) (layout.procs) (available_at layout) words x (omega arith) i;
  policies = segment-after (policies_from layout) (length layout.threads) (available_at layout) words x (omega arith) i;
  losses = segment-after (losses_from layout) (layout.files) (available_at layout) words x (omega arith) i;
  stop = set-other words (available_at layout) (stop_at layout) x (λ e. absurd (omega arith)) i;
}
words-put layout words (places.Bad frame) x wide inside = λ i. record {
  frames = segment-before (0) (layout.frames) (bads_from layout + frame.0) words x (omega arith) i;
  trans = segment-before (trans_from layout) (length layout.trans) (bads_from layout + frame.0) words x (omega arith) i;
  caches = segment-before (caches_from layout) (length layout.pages) (bads_from layout + frame.0) words x (omega arith) i;
  pages = segment-before (pages_from layout) (length layout.pages) (bads_from layout + frame.0) words x (omega arith) i;
  frees = segment-before (frees_from layout) (free_words layout) (bads_from layout + frame.0) words x (omega arith) i;
  available = set-other words (bads_from layout + frame.0) (available_at layout) x (λ e. absurd (omega arith)) i;
  bads = segment-in (bads_from layout) (layout.frames) frame.0 words x i;
  weaks = segment-after (weaks_from layout) (layout.frames) (bads_from layout + frame.0) words x (omega arith) i;
  counter = set-other words (bads_from layout + frame.0) (counter_at layout) x (λ e. absurd (omega arith)) i;
  processes = segment-after (processes_from layout) (layout.procs) (bads_from layout + frame.0) words x (omega arith) i;
  policies = segment-after (policies_from layout) (length layout.threads) (bads_from layout + frame.0) words x (omega arith) i;
  losses = segment-after (losses_from layout) (layout.files) (bads_from layout + frame.0) words x (omega arith) i;
  stop = set-other words (bads_from layout + frame.0) (stop_at layout) x (λ e. absurd (omega arith)) i;
}
words-put layout words (places.Weak frame) x wide inside = λ i. record {
  frames = segment-before (0) (layout.frames) (weaks_from layout + frame.0) words x (omega arith) i;
  trans = segment-before (trans_from layout) (length layout.trans) (weaks_from layout + frame.0) words x (omega arith) i;
  caches = segment-before (caches_from layout) (length layout.pages) (weaks_from layout + frame.0) words x (omega arith) i;
  pages = segment-before (pages_from layout) (length layout.pages) (weaks_from layout + frame.0) words x (omega arith) i;
  frees = segment-before (frees_from layout) (free_words layout) (weaks_from layout + frame.0) words x (omega arith) i;
  available = set-other words (weaks_from layout + frame.0) (available_at layout) x (λ e. absurd (omega arith)) i;
  bads = segment-before (bads_from layout) (layout.frames) (weaks_from layout + frame.0) words x (omega arith) i;
  weaks = segment-in (weaks_from layout) (layout.frames) frame.0 words x i;
  counter = set-other words (weaks_from layout + frame.0) (counter_at layout) x (λ e. absurd (omega arith)) i;
  processes = segment-after (processes_from layout) (layout.procs) (weaks_from layout + frame.0) words x (omega arith) i;
  policies = segment-after (policies_from layout) (length layout.threads) (weaks_from layout + frame.0) words x (omega arith) i;
  losses = segment-after (losses_from layout) (layout.files) (weaks_from layout + frame.0) words x (omega arith) i;
  stop = set-other words (weaks_from layout + frame.0) (stop_at layout) x (λ e. absurd (omega arith)) i;
}
words-put layout words places.Counter x wide inside = λ i. record {
  frames = segment-before (0) (layout.frames) (counter_at layout) words x (omega arith) i;
  trans = segment-before (trans_from layout) (length layout.trans) (counter_at layout) words x (omega arith) i;
  caches = segment-before (caches_from layout) (length layout.pages) (counter_at layout) words x (omega arith) i;
  pages = segment-before (pages_from layout) (length layout.pages) (counter_at layout) words x (omega arith) i;
  frees = segment-before (frees_from layout) (free_words layout) (counter_at layout) words x (omega arith) i;
  available = set-other words (counter_at layout) (available_at layout) x (λ e. absurd (omega arith)) i;
  bads = segment-before (bads_from layout) (layout.frames) (counter_at layout) words x (omega arith) i;
  weaks = segment-before (weaks_from layout) (layout.frames) (counter_at layout) words x (omega arith) i;
  counter = set-same words (counter_at layout) x (omega arith) i;
  processes = segment-after (processes_from layout) (layout.procs) (counter_at layout) words x (omega arith) i;
  policies = segment-after (policies_from layout) (length layout.threads) (counter_at layout) words x (omega arith) i;
  losses = segment-after (losses_from layout) (layout.files) (counter_at layout) words x (omega arith) i;
  stop = set-other words (counter_at layout) (stop_at layout) x (λ e. absurd (omega arith)) i;
}
words-put layout words (places.Process process) x wide inside = λ i. record {
  frames = segment-before (0) (layout.frames) (processes_from layout + process.0) words x (omega arith) i;
  trans = segment-before (trans_from layout) (length layout.trans) (processes_from layout + process.0) words x (omega arith) i;
  caches = segment-before (caches_from layout) (length layout.pages) (processes_from layout + process.0) words x (omega arith) i;
  pages = segment-before (pages_from layout) (length layout.pages) (processes_from layout + process.0) words x (omega arith) i;
  frees = segment-before (frees_from layout) (free_words layout) (processes_from layout + process.0) words x (omega arith) i;
  available = set-other words (processes_from layout + process.0) (available_at layout) x (λ e. absurd (omega arith)) i;
  bads = segment-before (bads_from layout) (layout.frames) (processes_from layout + process.0) words x (omega arith) i;
  weaks = segment-before (weaks_from layout) (layout.frames) (processes_from layout + process.0) words x (omega arith) i;
  counter = set-other words (processes_from layout + process.0) (counter_at layout) x (λ e. absurd (omega arith)) i;
  processes = segment-in (processes_from layout) (layout.procs) process.0 words x i;
  policies = segment-after (policies_from layout) (length layout.threads) (processes_from layout + process.0) words x (omega arith) i;
  losses = segment-after (losses_from layout) (layout.files) (processes_from layout + process.0) words x (omega arith) i;
  stop = set-other words (processes_from layout + process.0) (stop_at layout) x (λ e. absurd (omega arith)) i;
}
words-put layout words (places.Policy thread) x wide inside = λ i. record {
  frames = segment-before (0) (layout.frames) (policies_from layout + thread.0) words x (omega arith) i;
  trans = segment-before (trans_from layout) (length layout.trans) (policies_from layout + thread.0) words x (omega arith) i;
  caches = segment-before (caches_from layout) (length layout.pages) (policies_from layout + thread.0) words x (omega arith) i;
  pages = segment-before (pages_from layout) (length layout.pages) (policies_from layout + thread.0) words x (omega arith) i;
  frees = segment-before (frees_from layout) (free_words layout) (policies_from layout + thread.0) words x (omega arith) i;
  available = set-other words (policies_from layout + thread.0) (available_at layout) x (λ e. absurd (omega arith)) i;
  bads = segment-before (bads_from layout) (layout.frames) (policies_from layout + thread.0) words x (omega arith) i;
  weaks = segment-before (weaks_from layout) (layout.frames) (policies_from layout + thread.0) words x (omega arith) i;
  counter = set-other words (policies_from layout + thread.0) (counter_at layout) x (λ e. absurd (omega arith)) i;
  processes = segment-before (processes_from layout) (layout.procs) (policies_from layout + thread.0) words x (omega arith) i;
  policies = segment-in (policies_from layout) (length layout.threads) thread.0 words x i;
  losses = segment-after (losses_from layout) (layout.files) (policies_from layout + thread.0) words x (omega arith) i;
  stop = set-other words (policies_from layout + thread.0) (stop_at layout) x (λ e. absurd (omega arith)) i;
}
words-put layout words (places.Loss file) x wide inside = λ i. record {
  frames = segment-before (0) (layout.frames) (losses_from layout + file.0) words x (omega arith) i;
  trans = segment-before (trans_from layout) (length layout.trans) (losses_from layout + file.0) words x (omega arith) i;
  caches = segment-before (caches_from layout) (length layout.pages) (losses_from layout + file.0) words x (omega arith) i;
  pages = segment-before (pages_from layout) (length layout.pages) (losses_from layout + file.0) words x (omega arith) i;
  frees = segment-before (frees_from layout) (free_words layout) (losses_from layout + file.0) words x (omega arith) i;
  available = set-other words (losses_from layout + file.0) (available_at layout) x (λ e. absurd (omega arith)) i;
  bads = segment-before (bads_from layout) (layout.frames) (losses_from layout + file.0) words x (omega arith) i;
  weaks = segment-before (weaks_from layout) (layout.frames) (losses_from layout + file.0) words x (omega arith) i;
  counter = set-other words (losses_from layout + file.0) (counter_at layout) x (λ e. absurd (omega arith)) i;
  processes = segment-before (processes_from layout) (layout.procs) (losses_from layout + file.0) words x (omega arith) i;
  policies = segment-before (policies_from layout) (length layout.threads) (losses_from layout + file.0) words x (omega arith) i;
  losses = segment-in (losses_from layout) (layout.files) file.0 words x i;
  stop = set-other words (losses_from layout + file.0) (stop_at layout) x (λ e. absurd (omega arith)) i;
}
words-put layout words places.Stop x wide inside = λ i. record {
  frames = segment-before (0) (layout.frames) (stop_at layout) words x (omega arith) i;
  trans = segment-before (trans_from layout) (length layout.trans) (stop_at layout) words x (omega arith) i;
  caches = segment-before (caches_from layout) (length layout.pages) (stop_at layout) words x (omega arith) i;
  pages = segment-before (pages_from layout) (length layout.pages) (stop_at layout) words x (omega arith) i;
  frees = segment-before (frees_from layout) (free_words layout) (stop_at layout) words x (omega arith) i;
  available = set-other words (stop_at layout) (available_at layout) x (λ e. absurd (omega arith)) i;
  bads = segment-before (bads_from layout) (layout.frames) (stop_at layout) words x (omega arith) i;
  weaks = segment-before (weaks_from layout) (layout.frames) (stop_at layout) words x (omega arith) i;
  counter = set-other words (stop_at layout) (counter_at layout) x (λ e. absurd (omega arith)) i;
  processes = segment-before (processes_from layout) (layout.procs) (stop_at layout) words x (omega arith) i;
  policies = segment-before (policies_from layout) (length layout.threads) (stop_at layout) words x (omega arith) i;
  losses = segment-before (losses_from layout) (layout.files) (stop_at layout) words x (omega arith) i;
  stop = set-same words (stop_at layout) x (omega arith) i;
}
