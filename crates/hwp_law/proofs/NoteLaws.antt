-- Notes of lines that were told in parts, and the frames that they take out of use.
use Rattle.std.proofs.Common.{◌≡◌, true, false, Bool, List, [], ◌∷◌, ◌++◌, map, flat_map, nat_lt, ◌==◌, if◌then◌else◌, refl, sym, ap, ◌∙◌}
use Rattle.std.proofs.lemmas.Grind.{flat_map-append}
use Rattle.std.proofs.lemmas.List.{append-nil, append_assoc}
use Rattle.hwp_script_words.specs.hwp_geom.declared.Frame.{Frame}
use Rattle.hwp_script_words.specs.hwp_geom.declared.Layout.{Layout}
use Rattle.hwp_script_words.specs.hwp_cec.Ages.{CecEvent, Note, live}
use Rattle.hwp_report_text.specs.declared.EventLine.{EventLine}
use Rattle.hwp_law.specs.Notes.{AreApart, IsRising, checks, notes, notes_of_check, with_line}
use Rattle.hwp_law.specs.Watched.{Watched, offlining, told}

-- where a line is put first: before the first check's lines, or as a check of its own
starts : (y : EventLine) (cs : List (List EventLine)) → (more : List EventLine) × (rest : List (List EventLine)) × (with_line y cs ≡ (y ∷ more) ∷ rest)
starts y [] = ([], [], refl)
starts y ([] ∷ cs) = ([], [] ∷ cs, refl)
starts y ((n ∷ m) ∷ cs) = by (nat_lt y.bank n.bank)
  where
    by : (b : Bool) → (more : List EventLine) × (rest : List (List EventLine)) × ((if b then (y ∷ n ∷ m) ∷ cs else (y ∷ []) ∷ (n ∷ m) ∷ cs) ≡ (y ∷ more) ∷ rest)
    by true = (n ∷ m, cs, refl)
    by false = ([], (n ∷ m) ∷ cs, refl)

with_line-append : (x : EventLine) (c : List EventLine) (cs ds : List (List EventLine)) → with_line x ((c ∷ cs) ++ ds) ≡ with_line x (c ∷ cs) ++ ds
with_line-append x [] cs ds = refl
with_line-append x (n ∷ m) cs ds = by (nat_lt x.bank n.bank)
  where
    by : (b : Bool) → (if b then (x ∷ n ∷ m) ∷ (cs ++ ds) else (x ∷ []) ∷ (n ∷ m) ∷ (cs ++ ds)) ≡ (if b then (x ∷ n ∷ m) ∷ cs else (x ∷ []) ∷ (n ∷ m) ∷ cs) ++ ds
    by true = refl
    by false = refl

with_line-apart : (x y : EventLine) (cs : List (List EventLine)) → nat_lt x.bank y.bank ≡ false → with_line x (with_line y cs) ≡ (x ∷ []) ∷ with_line y cs
with_line-apart x y cs low =
    let s : (more : List EventLine) × (rest : List (List EventLine)) × (with_line y cs ≡ (y ∷ more) ∷ rest) = starts y cs in
    ap (with_line x) s.2
    ∙ (ap (λ (b : Bool). if b then (x ∷ y ∷ s.0) ∷ s.1 else (x ∷ []) ∷ (y ∷ s.0) ∷ s.1) low
    ∙ ap (λ (l : List (List EventLine)). (x ∷ []) ∷ l) (sym s.2))

-- the checks of some lines and of others that begin a check are those of all
pub checks-append : (a b : List EventLine) → AreApart a b → checks (a ++ b) ≡ checks a ++ checks b
checks-append [] b apart = refl
checks-append (x ∷ []) [] apart = refl
checks-append (x ∷ []) (y ∷ b) apart = with_line-apart x y (checks b) apart
checks-append (x ∷ y ∷ a) b apart =
    let s : (more : List EventLine) × (rest : List (List EventLine)) × (with_line y (checks a) ≡ (y ∷ more) ∷ rest) = starts y (checks a) in
    ap (with_line x) (checks-append (y ∷ a) b apart)
    ∙ (ap (λ (l : List (List EventLine)). with_line x (l ++ checks b)) s.2
    ∙ (with_line-append x (y ∷ s.0) s.1 (checks b)
    ∙ ap (λ (l : List (List EventLine)). with_line x l ++ checks b) (sym s.2)))

-- so what a command notes is what its parts note, where each part begins a check
pub notes-append : (layout : Layout) (a b : List EventLine) → AreApart a b → notes layout (a ++ b) ≡ notes layout a ++ notes layout b
notes-append layout a b apart = ap (flat_map (notes_of_check layout)) (checks-append a b apart) ∙ flat_map-append (notes_of_check layout) (checks a) (checks b)

-- lines of rising banks are one check
pub checks-rising : (line : EventLine) (rest : List EventLine) → IsRising (line ∷ rest) → checks (line ∷ rest) ≡ (line ∷ rest) ∷ []
checks-rising line [] rising = refl
checks-rising line (next ∷ rest) (low, rising) =
    ap (with_line line) (checks-rising next rest rising) ∙ ap (λ (b : Bool). if b then (line ∷ next ∷ rest) ∷ [] else (line ∷ []) ∷ (next ∷ rest) ∷ []) low

-- what one check notes
pub notes-rising : (layout : Layout) (line : EventLine) (rest : List EventLine) → IsRising (line ∷ rest) → notes layout (line ∷ rest) ≡ notes_of_check layout (line ∷ rest)
notes-rising layout line rest rising = ap (flat_map (notes_of_check layout)) (checks-rising line rest rising) ∙ append-nil (notes_of_check layout (line ∷ rest))

-- a collector that is told some events and then others was told all
pub told-none : (w : Watched) → told [] w ≡ w
told-none w = ap (λ (events : List CecEvent). record w { events = events }) (append-nil w.events)

pub told-more : (a b : List CecEvent) (w : Watched) → told b (told a w) ≡ told (a ++ b) w
told-more a b w = ap (λ (events : List CecEvent). record w { events = events }) (append_assoc w.events a b)

-- the notes that take their frame out of use, where some notes come first and then others
pub offlining-append : (w : Watched) (a b : List Frame) → offlining w (a ++ b) ≡ offlining w a ++ offlining (told (map Note a) w) b
offlining-append w [] b = ap (λ (v : Watched). offlining v b) (sym (told-none w))
offlining-append w (frame ∷ a) b =
    by (live w.threshold w.window w.events frame.0 == w.threshold)
    (offlining (told (Note frame ∷ []) w) (a ++ b))
    (offlining (told (Note frame ∷ []) w) a)
    (offlining (told (map Note (frame ∷ a)) w) b)
    (offlining-append (told (Note frame ∷ []) w) a b
    ∙ ap (λ (v : Watched). offlining (told (Note frame ∷ []) w) a ++ offlining v b) (told-more (Note frame ∷ []) (map Note a) w))
  where
    by : (goes : Bool) (l m k : List Frame) → l ≡ m ++ k → (if goes then frame ∷ l else l) ≡ (if goes then frame ∷ m else m) ++ k
    by true l m k same = ap (λ (l : List Frame). frame ∷ l) same
    by false l m k same = same
