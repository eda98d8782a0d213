-- What workers did that were dealt, run and taken in, as their processors' own runs.
use Rattle.std.proofs.Common.{◌≡◌, ◌⊎◌, inl, inr, ℕ, zero, suc, ◌+◌, ◌<◌, ◌==◌, false, List, [], ◌∷◌, ◌++◌, Some, All, length, map, get_or, slice_get, refl, sym, ap, ◌∙◌, subst, arith}
use Rattle.std.specs.List.{flat_map, sum_by}
use Rattle.std.proofs.lemmas.List.{length-map}
use Rattle.std.proofs.lemmas.Option.{get_or_from_slice_get, none-some, same_Some, slice_get-get_or, slice_get_within}
use Rattle.atomic_table.specs.Seated.{TableId}
use Rattle.crossbeam_utils.specs.declared.CachePadded.{CachePadded}
use Rattle.crossbeam_utils.specs.Padded.{padded_value}
use Rattle.hwp_threads.specs.hwp_geom.declared.Layout.{Layout}
use Rattle.hwp_threads.specs.hwp_core_rule.declared.Rec.{Rec}
use Rattle.hwp_threads.specs.hwp_core_rule.declared.View.{View}
use Rattle.hwp_threads.specs.hwp_core_rule.Opening.{below, opening, opening_view}
use Rattle.hwp_threads.specs.hwp_core_rule.parts.Holdings.{HoldsNothing}
use Rattle.hwp_threads.proofs.of_hwp_core_rule.Lists.{at_map, from_bool-same, map-was, term-le}
use Rattle.hwp_threads.proofs.of_hwp_core_rule.WordsOpen.{below-at}
use Rattle.std.specs.Int.{from_bool}
use Rattle.hwp_threads.specs.hwp_core_rule.Boards.{view_of}
use Rattle.hwp_threads.specs.Own.{IsOwnRun, Standing, made_of}
use Rattle.hwp_threads.specs.Parts.{Own}
use Rattle.hwp_threads.specs.declared.Worker.{Worker}
use Rattle.hwp_threads.specs.Workers.{AllRan, CanRun, RanToEnd, recs_of, standing}
use Rattle.hwp_threads.specs.hwp_table_words.Known.{Known, moves_by}
use Rattle.hwp_threads.specs.hwp_table_words.Seats.{HasRight, Moves, SeatValue, cpu, cpu_of, mine}
use Rattle.hwp_threads.specs.hwp_table_words.Stands.{Me}
use Rattle.hwp_threads.specs.Dealing.{HasMoved, IsUnused, seat_at, workers_at}
use Rattle.hwp_threads.specs.Gathering.{AreBare, AreGathered, mine_in, own_in}
use Rattle.hwp_threads.proofs.SeatMoves.{bare-when-over, dealt-moved, have-moved}
use Rattle.hwp_top_words.specs.hwp_script_read.declared.Script.{Script}
use Rattle.hwp_top_words.specs.hwp_script_read.hwp_script_words.Valid.{IsValid}
use Rattle.hwp_top_report.specs.hwp_plain.Order.{cpu_of as number_of}
use Rattle.hwp_top_report.proofs.of_hwp_law_served.Homes.{there-is}
use Rattle.hwp_cpu.specs.declared.Processor.{Processor}
use Rattle.hwp_cpu.specs.Serving.{Fits}
use Rattle.hwp_cpu.proofs.Ends.{opening-fits}
use Rattle.hwp_cpu.proofs.ProcessorTells.{tells}
use Rattle.hwp_top.specs.Runs.{AreAtBeginning, processors}
use Rattle.hwp_top.specs.ThreadRuns.{HasRun, HaveRun, tasks_then}
use Rattle.hwp_top.proofs.ListChoice.{AreOwn, Chosen, at-past, at-split, choose, moves_of, own-of-all}

abbrev pub Place : Type 0
Place = CachePadded (Worker SeatValue Processor)

abbrev pub value : Place → Worker SeatValue Processor
value w = padded_value w

-- lists with the same members are the same
same-lists : {A : Type 0} (xs ys : List A) → length xs ≡ length ys → ((i : ℕ) (x y : A) → slice_get xs i ≡ Some x → slice_get ys i ≡ Some y → x ≡ y) → xs ≡ ys
same-lists [] [] count each = refl
same-lists [] (y ∷ ys) count each = absurd (omega (arith, count))
same-lists (x ∷ xs) [] count each = absurd (omega (arith, count))
same-lists (x ∷ xs) (y ∷ ys) count each = λ i. each 0 x y refl refl i ∷ same-lists xs ys (let c : length xs ≡ length ys = omega (arith, count) in c) (λ j a b e f. each (suc j) a b e f) i

twice : {A B C : Type 0} (f : B → C) (g : A → B) (xs : List A) → map f (map g xs) ≡ map (λ (x : A). f (g x)) xs
twice f g [] = refl
twice {A} {B} {C} f g (x ∷ xs) = ap (λ (l : List C). f (g x) ∷ l) (twice f g xs)

-- a worker of those that were dealt
pub record IsDealt (id : TableId) (layout : Layout) (tasks : List Processor) (c i : ℕ) (w : Worker SeatValue Processor) : Type 0 where
  pub task : Processor
  pub there : slice_get tasks i ≡ Some task
  pub is : w ≡ record { seat = seat_at id layout c; task = task; refused = false }

dealt-at : (id : TableId) (layout : Layout) (tasks : List Processor) (n i c : ℕ) (w : Worker SeatValue Processor) → c ≡ n + i → slice_get (workers_at id layout n tasks) i ≡ Some w → IsDealt id layout tasks c i w
dealt-at id layout [] n i c w at e = absurd (none-some w e)
dealt-at id layout (t ∷ ts) n zero c w at e = record {
  task = t;
  there = refl;
  is = sym (same_Some (record { seat = seat_at id layout n; task = t; refused = false }) w e) ∙ ap (λ (k : ℕ). record { seat = seat_at id layout k; task = t; refused = false }) (let same : n ≡ c = omega (arith, at) in same);
}
dealt-at id layout (t ∷ ts) n (suc i) c w at e = let d = dealt-at id layout ts (n + 1) i c w (omega (arith, at)) e in record { task = d.task; there = d.there; is = d.is }

module _ (script : Script) (crew : List Processor) (valid : IsValid script) (begin : AreAtBeginning script crew) (id : TableId) (olds : List Place) (dealt : map value olds ≡ workers_at id script.layout 0 crew) where
  abbrev layout : Layout
  layout = script.layout

  dealt-of : (c : ℕ) (a : Place) → slice_get olds c ≡ Some a → IsDealt id layout crew c c (value a)
  dealt-of c a at = dealt-at id layout crew 0 c c (value a) (omega arith) (ap (λ (l : List (Worker SeatValue Processor)). slice_get l c) (sym dealt) ∙ at_map value olds c a at)

  crew-less : (c : ℕ) (p : Processor) → slice_get crew c ≡ Some p → c < layout.cpus
  crew-less c p at = let within = slice_get_within crew c p at in omega (arith, within, begin.one_each, valid.one_each)

  fits-at : (c : ℕ) (p : Processor) → slice_get crew c ≡ Some p → Fits layout (opening_view c) p
  fits-at c p at =
      let less = crew-less c p at in
      let list = there-is script.lists c (omega (arith, less, valid.one_each)) in
      let view : view_of (opening layout) c ≡ opening_view c = get_or_from_slice_get (map opening_view (below layout.cpus)) c (opening_view c) (opening_view c) (at_map opening_view (below layout.cpus) c c (below-at layout.cpus c less)) in
      subst (λ (v : View). Fits layout v p) view (opening-fits layout (number_of c) list.0 p (begin.each (number_of c) list.0 p list.1 at))

  -- each worker can make its turns
  pub can-run : All (λ (w : Place). CanRun (λ (s : SeatValue). s.layout) (λ (s : SeatValue). mine s) (λ (s : SeatValue). HasRight s.known) processors.fits (value w)) olds
  can-run c d less =
      let a = get_or olds c d in
      let deal = dealt-of c a (slice_get-get_or olds c d less) in
      subst (CanRun (λ (s : SeatValue). s.layout) (λ (s : SeatValue). mine s) (λ (s : SeatValue). HasRight s.known) processors.fits) (sym deal.is) (record { ready_is = right c; fits_is = fits-at c deal.task deal.there })
    where
      right : (n : ℕ) → 0 < sum_by (λ (m : ℕ). from_bool (m == n)) (n ∷ [])
      right n = let one = from_bool-same n n refl in let less = term-le (λ (m : ℕ). from_bool (m == n)) (n ∷ []) 0 n refl in omega (arith, one, less)

  module _ (news : List Place) (count : length news ≡ length olds) (ran : AllRan processors (λ (s : SeatValue). s.layout) (λ (s : SeatValue). mine s) (λ a r b. Moves a r b) olds news) where
    -- what a worker came to
    pub record Ran (c : ℕ) (b : Place) : Type 0 where
      pub a : Place
      pub there : slice_get olds c ≡ Some a
      pub deal : IsDealt id layout crew c c (value a)
      pub run : RanToEnd processors (λ (s : SeatValue). s.layout) (λ (s : SeatValue). mine s) (λ x r y. Moves x r y) (value a) (value b)
      pub moved : HasMoved id layout c (recs_of processors layout run.run.turns) (value b).seat

    ran-at : (c : ℕ) (b : Place) → slice_get news c ≡ Some b → Ran c b
    ran-at c b at =
        let within = slice_get_within news c b at in
        let old = there-is olds c (omega (arith, within, count)) in
        let deal = dealt-of c old.0 old.1 in
        let run = ran c old.0 b old.1 at in
        let seat : (value old.0).seat ≡ seat_at id layout c = ap (λ (w : Worker SeatValue Processor). w.seat) deal.is in
        let first : HasMoved id layout c [] (value old.0).seat = subst (HasMoved id layout c []) (sym seat) (dealt-moved id layout c) in
        record {
          a = old.0;
          there = old.1;
          deal = deal;
          run = run;
          moved = subst (λ (l : Layout). HasMoved id layout c (recs_of processors l run.run.turns) (value b).seat) (ap (λ (s : SeatValue). s.layout) seat)
              (have-moved id layout c (recs_of processors (value old.0).seat.layout run.run.turns) (value old.0).seat (value b).seat first run.run.made.moved);
        }

    -- each can be taken in
    pub are-bare : AreBare id news
    are-bare c b at =
        let r = ran-at c b at in
        let is : cpu (value b).seat ≡ c = ap cpu_of r.moved.one in
        record {
          table_is = r.moved.table_is;
          one = r.moved.one ∙ ap (λ (k : ℕ). (k, mine (value b).seat) ∷ []) (sym is);
          bare = bare-when-over processors (value b).seat.layout (mine (value b).seat) (value b).task tells r.run.fits r.run.over;
        }

    module _ (left : Known) (unused : IsUnused left) (me : Me) (of : TableId) (tasks : List Processor) (gathered : AreGathered id left news of me tasks) where
      abbrev own-value : Place → List (ℕ × Rec)
      own-value w = own_in (value w)

      abbrev mine-value : Place → ℕ × View
      mine-value w = mine_in (value w)

      are-own : AreOwn own-value 0 news
      are-own i b at = let r = ran-at i b at in (recs_of processors layout r.run.run.turns, r.moved.own ∙ ap (λ (k : ℕ). moves_of k (recs_of processors layout r.run.run.turns)) (omega arith))

      mine-is : (c : ℕ) (b : Place) → slice_get news c ≡ Some b → mine-value b ≡ (c, mine (value b).seat)
      mine-is c b at = ap (λ (k : ℕ). (k, mine (value b).seat)) (ap cpu_of (ran-at c b at).moved.one)

      -- the own run of a worker
      pub record IsOf (c : ℕ) (o : Own Processor) : Type 0 where
        pub b : Place
        pub there : slice_get news c ≡ Some b
        pub to_is : o.to ≡ standing (λ (s : SeatValue). mine s) (value b)
        pub has : HasRun script crew me.0.known c o

      of-worker : (c : ℕ) → c < length news → (o : Own Processor) × IsOf c o
      of-worker c less =
          let new = there-is news c less in
          let b = new.0 in
          let r = ran-at c b new.1 in
          let seat : (value r.a).seat ≡ seat_at id layout c = ap (λ (w : Worker SeatValue Processor). w.seat) r.deal.is in
          let same : (value r.a).seat.layout ≡ layout = ap (λ (s : SeatValue). s.layout) seat in
          let o : Own Processor = record { from = standing (λ (s : SeatValue). mine s) (value r.a); turns = r.run.run.turns; to = standing (λ (s : SeatValue). mine s) (value b) } in (
            o,
            record {
              b = b;
              there = new.1;
              to_is = refl;
              has = record {
                begun = record {
                  view_is = ap (λ (s : SeatValue). mine s) seat;
                  task_is = r.deal.there ∙ ap (λ (w : Worker SeatValue Processor). Some w.task) (sym r.deal.is);
                  fits = subst (λ (l : Layout). Fits l (mine (value b).seat) (value b).task) r.moved.layout_is r.run.fits;
                };
                run = subst (λ (l : Layout). IsOwnRun processors l o.from o.turns o.to) same r.run.run.made.own;
                going = (r.run.run.made.going (gathered.going c b new.1)).1;
                view = (
                  length left.mines + c,
                  mine-value b,
                  ap (λ (l : List (ℕ × View)). slice_get l (length left.mines + c)) gathered.mines ∙ at-past left.mines (map mine-value news) c (mine-value b) (at_map mine-value news c b new.1),
                  mine-is c b new.1,
                );
                moves = ap (moves_by c) (gathered.own ∙ ap (λ (l : List (ℕ × Rec)). l ++ flat_map own-value news) unused.own)
                    ∙ ap (λ (k : ℕ). moves_by k (flat_map own-value news)) (let number : c ≡ 0 + c = omega arith in number) ∙ own-of-all own-value 0 c news b new.1 are-own
                    ∙ r.moved.own ∙ twice (λ (x : Rec). (c, x)) (made_of processors layout) r.run.run.turns;
              };
            },
          )

      chosen : Chosen IsOf (length news)
      chosen = choose IsOf (length news) of-worker

      crew-count : length news ≡ length crew
      crew-count = count ∙ sym (length-map olds value) ∙ ap length dealt ∙ dealt-length 0 crew
        where
          dealt-length : (n : ℕ) (ts : List Processor) → length (workers_at id layout n ts) ≡ length ts
          dealt-length n [] = refl
          dealt-length n (t ∷ ts) = ap (λ (k : ℕ). suc k) (dealt-length (n + 1) ts)

      -- THE WORKERS' RUNS, as the one seat knows them
      pub have-run : HaveRun script me.0.known tasks
      have-run = record {
        tasks = crew;
        begin = begin;
        owns = chosen.all;
        count = chosen.count ∙ crew-count;
        each = λ c o at. (chosen.each c o at).has;
        now_are = gathered.tasks_are ∙ same-lists (map (λ (w : Place). (value w).task) news) (tasks_then chosen.all)
            (length-map news (λ (w : Place). (value w).task) ∙ sym chosen.count ∙ sym (length-map chosen.all (λ (o : Own Processor). o.to.task)))
            (λ i x y e f. same-task i x y (map-was (λ (w : Place). (value w).task) news i x e) (map-was (λ (o : Own Processor). o.to.task) chosen.all i y f));
        others = λ i x e. others i x (at-split left.mines (map mine-value news) i x (ap (λ (l : List (ℕ × View)). slice_get l i) (sym gathered.mines) ∙ e));
      }
        where
          same-task : (i : ℕ) (x y : Processor) → (w : Place) × (slice_get news i ≡ Some w) × ((value w).task ≡ x) → (o : Own Processor) × (slice_get chosen.all i ≡ Some o) × (o.to.task ≡ y) → x ≡ y
          same-task i x y (w, at, is) (o, there, so) =
              let c = chosen.each i o there in
              let one : w ≡ c.b = same_Some w c.b (sym at ∙ c.there) in
              sym is ∙ ap (λ (p : Place). (value p).task) one ∙ sym (ap (λ (s : Standing Processor). s.task) c.to_is) ∙ so

          own-of : (j : ℕ) (x : ℕ × View) → (w : Place) × (slice_get news j ≡ Some w) × (mine-value w ≡ x) → (o : Own Processor) × (slice_get chosen.all x.0 ≡ Some o) × (x.1 ≡ o.to.view)
          own-of j x (w, at, is) =
              let within = slice_get_within news j w at in
              let own = there-is chosen.all j (omega (arith, within, chosen.count)) in
              let c = chosen.each j own.0 own.1 in
              let one : w ≡ c.b = same_Some w c.b (sym at ∙ c.there) in
              let pair : x ≡ (j, mine (value w).seat) = sym is ∙ mine-is j w at in (
                own.0,
                ap (λ (y : ℕ × View). slice_get chosen.all y.0) pair ∙ own.1,
                ap (λ (y : ℕ × View). y.1) pair ∙ ap (λ (p : Place). mine (value p).seat) one ∙ sym (ap (λ (s : Standing Processor). s.view) c.to_is),
              )

          others : (i : ℕ) (x : ℕ × View) → (slice_get left.mines i ≡ Some x) ⊎ ((j : ℕ) × (slice_get (map mine-value news) j ≡ Some x)) → HoldsNothing x.1 ⊎ ((o : Own Processor) × (slice_get chosen.all x.0 ≡ Some o) × (x.1 ≡ o.to.view))
          others i x (inl e) = inl (unused.nothing i x e)
          others i x (inr (j, e)) = inr (own-of j x (map-was mine-value news j x e))
