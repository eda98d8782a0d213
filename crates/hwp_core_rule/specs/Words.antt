-- The shared words of a board: one list, and the same words by their kinds.
use Rattle.std.specs.Prelude.{ℕ, zero, suc, ◌+◌, ◌/◌, ◌%◌, ◌^◌, ◌<◌, List, length, take, drop, slice_index, slice_set}
use Rattle.hwp_page.specs.hwp_geom.declared.Layout.{Layout}
use Rattle.hwp_core_rule.specs.declared.shared_word.SharedWord.{SharedWord}
use Rattle.hwp_core_rule.specs.declared.shared_word.SharedWord.TheVariants as places

-- the words by their kinds, each kind in rising order of what it is of
pub record Words : Type 0 where
  pub frames : List ℕ
  pub trans : List ℕ
  pub caches : List ℕ
  pub pages : List ℕ
  pub frees : List ℕ
  pub available : ℕ
  pub bads : List ℕ
  pub weaks : List ℕ
  pub counter : ℕ
  pub processes : List ℕ
  pub policies : List ℕ
  pub losses : List ℕ
  pub stop : ℕ

-- the number of free words: a bit for each frame
abbrev pub free_words : Layout → ℕ
free_words layout = (layout.frames + 63) / 64

-- where the words of each kind begin in the one list
abbrev pub trans_from : Layout → ℕ
trans_from layout = layout.frames

abbrev pub caches_from : Layout → ℕ
caches_from layout = trans_from layout + length layout.trans

abbrev pub pages_from : Layout → ℕ
pages_from layout = caches_from layout + length layout.pages

abbrev pub frees_from : Layout → ℕ
frees_from layout = pages_from layout + length layout.pages

abbrev pub available_at : Layout → ℕ
available_at layout = frees_from layout + free_words layout

abbrev pub bads_from : Layout → ℕ
bads_from layout = available_at layout + 1

abbrev pub weaks_from : Layout → ℕ
weaks_from layout = bads_from layout + layout.frames

abbrev pub counter_at : Layout → ℕ
counter_at layout = weaks_from layout + layout.frames

abbrev pub processes_from : Layout → ℕ
processes_from layout = counter_at layout + 1

abbrev pub policies_from : Layout → ℕ
policies_from layout = processes_from layout + layout.procs

abbrev pub losses_from : Layout → ℕ
losses_from layout = policies_from layout + length layout.threads

abbrev pub stop_at : Layout → ℕ
stop_at layout = losses_from layout + layout.files

-- the number of all words
abbrev pub size : Layout → ℕ
size layout = stop_at layout + 1

-- so many words from a place on
abbrev pub segment : ℕ → ℕ → List ℕ → List ℕ
segment from count words = take count (drop from words)

-- the one list by kinds
abbrev pub words_of : Layout → List ℕ → Words
words_of layout words = record {
  frames = segment 0 layout.frames words;
  trans = segment (trans_from layout) (length layout.trans) words;
  caches = segment (caches_from layout) (length layout.pages) words;
  pages = segment (pages_from layout) (length layout.pages) words;
  frees = segment (frees_from layout) (free_words layout) words;
  available = slice_index words (available_at layout);
  bads = segment (bads_from layout) layout.frames words;
  weaks = segment (weaks_from layout) layout.frames words;
  counter = slice_index words (counter_at layout);
  processes = segment (processes_from layout) layout.procs words;
  policies = segment (policies_from layout) (length layout.threads) words;
  losses = segment (losses_from layout) layout.files words;
  stop = slice_index words (stop_at layout);
}

-- the place of a word in the one list
abbrev pub index : Layout → SharedWord → ℕ
index layout (places.Frame frame) = frame.0
index layout (places.Trans slot) = trans_from layout + slot.0
index layout (places.Cache page) = caches_from layout + page.0
index layout (places.Page page) = pages_from layout + page.0
index layout (places.Free number) = frees_from layout + number
index layout places.Available = available_at layout
index layout (places.Bad frame) = bads_from layout + frame.0
index layout (places.Weak frame) = weaks_from layout + frame.0
index layout places.Counter = counter_at layout
index layout (places.Process process) = processes_from layout + process.0
index layout (places.Policy thread) = policies_from layout + thread.0
index layout (places.Loss file) = losses_from layout + file.0
index layout places.Stop = stop_at layout

-- what the place names is in the layout
abbrev pub IsPlace : Layout → SharedWord → Type 0
IsPlace layout (places.Frame frame) = frame.0 < layout.frames
IsPlace layout (places.Trans slot) = slot.0 < length layout.trans
IsPlace layout (places.Cache page) = page.0 < length layout.pages
IsPlace layout (places.Page page) = page.0 < length layout.pages
IsPlace layout (places.Free number) = number < free_words layout
IsPlace layout places.Available = Unit {0}
IsPlace layout (places.Bad frame) = frame.0 < layout.frames
IsPlace layout (places.Weak frame) = frame.0 < layout.frames
IsPlace layout places.Counter = Unit {0}
IsPlace layout (places.Process process) = process.0 < layout.procs
IsPlace layout (places.Policy thread) = thread.0 < length layout.threads
IsPlace layout (places.Loss file) = file.0 < layout.files
IsPlace layout places.Stop = Unit {0}

-- the word of a place
abbrev pub read : SharedWord → Words → ℕ
read (places.Frame frame) words = slice_index words.frames frame.0
read (places.Trans slot) words = slice_index words.trans slot.0
read (places.Cache page) words = slice_index words.caches page.0
read (places.Page page) words = slice_index words.pages page.0
read (places.Free number) words = slice_index words.frees number
read places.Available words = words.available
read (places.Bad frame) words = slice_index words.bads frame.0
read (places.Weak frame) words = slice_index words.weaks frame.0
read places.Counter words = words.counter
read (places.Process process) words = slice_index words.processes process.0
read (places.Policy thread) words = slice_index words.policies thread.0
read (places.Loss file) words = slice_index words.losses file.0
read places.Stop words = words.stop

-- the words with another one at a place
abbrev pub put : SharedWord → ℕ → Words → Words
put (places.Frame frame) word words = record words { frames = slice_set words.frames frame.0 word }
put (places.Trans slot) word words = record words { trans = slice_set words.trans slot.0 word }
put (places.Cache page) word words = record words { caches = slice_set words.caches page.0 word }
put (places.Page page) word words = record words { pages = slice_set words.pages page.0 word }
put (places.Free number) word words = record words { frees = slice_set words.frees number word }
put places.Available word words = record words { available = word }
put (places.Bad frame) word words = record words { bads = slice_set words.bads frame.0 word }
put (places.Weak frame) word words = record words { weaks = slice_set words.weaks frame.0 word }
put places.Counter word words = record words { counter = word }
put (places.Process process) word words = record words { processes = slice_set words.processes process.0 word }
put (places.Policy thread) word words = record words { policies = slice_set words.policies thread.0 word }
put (places.Loss file) word words = record words { losses = slice_set words.losses file.0 word }
put places.Stop word words = record words { stop = word }

-- f 0 + f 1 + .. + f (n - 1)
abbrev pub sum_below : (ℕ → ℕ) → ℕ → ℕ
sum_below f zero = 0
sum_below f (suc n) = sum_below f n + f n

-- the free bit of a frame, in the free words
abbrev pub free_bit : List ℕ → ℕ → ℕ
free_bit frees f = slice_index frees (f / 64) / 2 ^ (f % 64) % 2
