-- Calls one after the other: nothing is served at first, one more call goes on, and a fault stops them.
use Rattle.std.proofs.{Common.{◌≡◌, ◌⊎◌, inl, inr, List, [], ◌∷◌, ◌++◌, Option, Some, None, refl, sym, ◌∙◌, ap, subst}, lemmas.List.{map-append}}
use Rattle.df_base.{specs.{Image.{Image}, Log.{Event, IsLeft, Log}, Moments.{EachMoment, Extends, adds}}, proofs.Laws.{extends_add, extends_self, more, weaker, same_log, adds_on, extends_on, either_same}}
use Rattle.df_disk.{specs.{Told.{Told}, Adds.{after_all}}, proofs.Laws.{after_append}}
use Rattle.df_theory.specs.{Shape.{Shape}, Units.{Units}, View.{View}, Device.{NoChanceOf}}
use Rattle.df_model.specs.{Commands.{Answer, ForRecent, Recent}, Views.{KeepsView}, Work.{Work, kept}}
use Rattle.df_opening.{specs.Below.{DataFile, State, shape}, proofs.Laws.{firmly, good_safe, keeps_back, keeps_on, keeps_self}}
use Rattle.df_replica.{specs.{Leaving.{AreSettled}, Serving.{EachIsGood, Firm, Grade, IsGoodFor, IsKept, Keeps, Whole, format, next}, Session.{Act, AnsweredIsThere, Exchange, EachIsMidway, FaultStopsThem, HasView, HoldsFor, HoldsSome, IsMidway, LeavesEither, LeavesView, NothingIsServed, OneMoreIsServed, act_in, acts_in, answer_in, answers_of, work_after}, WrittenFor.{IsWrittenIn}}, proofs.Calls.{moments}}

-- ---- the acts with one more

module _ (file : DataFile) where
  pub work_more : (w : Work) (acts : List Act) (a : Act)
      → work_after file w (acts ++ a ∷ []) ≡ (next file (work_after file w acts) a.given a.command).0
  work_more w [] a = refl
  work_more w (x ∷ acts) a = work_more (next file w x.given x.command).0 acts a

  pub answers_more : (w : Work) (acts : List Act) (a : Act)
      → answers_of file w (acts ++ a ∷ []) ≡ answers_of file w acts ++ (next file (work_after file w acts) a.given a.command).1 ∷ []
  answers_more w [] a = refl
  answers_more w (x ∷ acts) a =
      ap (λ (l : List Answer). (next file w x.given x.command).1 ∷ l) (answers_more (next file w x.given x.command).0 acts a)

  -- what a good log leaves
  pub good_left : (g : Grade) (v u : View) (log : Log)
      → IsGoodFor g (format file) (shape file) v u log → (image : Image) → IsLeft log image → NoChanceOf (format file) log image
      → HoldsFor g (shape file) ((format file).unit_at image) v ⊎ HoldsFor g (shape file) ((format file).unit_at image) u
  good_left Firm v u log good image left chance =
      elim (good.left image left chance) [ inl old ↦ inl (v, keeps_self v, old) | inr new ↦ inr (u, keeps_self u, new) ]
  good_left Whole v u log good image left chance =
      elim (good.left image left chance) [ inl old ↦ inl (v, keeps_self v, old) | inr new ↦ inr (u, keeps_self u, new) ]

-- what keeps a view keeps one that is kept by it
pub holds_on : (g : Grade) (sh : Shape) (image : Units) (v u : View) → KeepsView v u → HoldsFor g sh image v → HoldsFor g sh image u
holds_on Firm sh image v u keeps has = (has.0, keeps_on u v has.0 (keeps_back v u keeps) has.1, has.2)
holds_on Whole sh image v u keeps has = (has.0, keeps_on u v has.0 (keeps_back v u keeps) has.1, has.2)

module _ (file : DataFile) (g : Grade) where
  some_last : (w : Work) (acts : List Act) (image : Image) → HasView file g (work_after file w acts) image → HoldsSome file g w acts image
  some_last w [] image has = has
  some_last w (x ∷ acts) image has = inr (some_last (next file w x.given x.command).0 acts image has)

  some_more : (w : Work) (acts : List Act) (a : Act) (image : Image) → HoldsSome file g w acts image → HoldsSome file g w (acts ++ a ∷ []) image
  some_more w [] a image has = inl has
  some_more w (x ∷ acts) a image (inl has) = inl has
  some_more w (x ∷ acts) a image (inr has) = inr (some_more (next file w x.given x.command).0 acts a image has)

  midway_more : (w : Work) (acts : List Act) (a : Act) (log : Log) → IsMidway file g w acts log → IsMidway file g w (acts ++ a ∷ []) log
  midway_more w acts a log is = record { safe = is.safe; left = λ image left chance. some_more w acts a image (is.left image left chance) }

  -- the image has the view of the state after one act more
  has_more : (w : Work) (acts : List Act) (a : Act) (image : Image) → HasView
      file g (next file (work_after file w acts) a.given a.command).0 image → HasView file g (work_after file w (acts ++ a ∷ [])) image
  has_more w acts a image has = subst (λ (x : Work). HasView file g x image) (sym (work_more file w acts a)) has

  midway_good : (w : Work) (acts : List Act) (a : Act) (log : Log) → IsGoodFor
      g (format file) (shape file) (kept (work_after file w acts)) (kept (next file (work_after file w acts) a.given a.command).0) log
      → IsMidway file g w (acts ++ a ∷ []) log
  midway_good w acts a log good = record {
    safe = good_safe file g (kept (work_after file w acts)) (kept (next file (work_after file w acts) a.given a.command).0) log good;
    left = λ image left chance. elim (good_left
        file g (kept (work_after file w acts)) (kept (next file (work_after file w acts) a.given a.command).0) log good image left chance) [
          | inl old ↦ some_more w acts a image (some_last w acts image old)
          | inr new ↦ some_last w (acts ++ a ∷ []) image (has_more w acts a image new)
        ];
  }

-- ---- moments that go on

grow : (new : List Event) (entry mid : Log) (P : Log → Type 0)
    → EachMoment entry mid P → EachMoment mid (record { start = mid.start; events = new ++ mid.events }) P
    → EachMoment entry (record { start = mid.start; events = new ++ mid.events }) P
grow [] entry mid P one two = one
grow (e ∷ new) entry mid P one two = more e entry (record { start = mid.start; events = new ++ mid.events }) P
    (grow new entry mid P one (λ log moment. two log
    (record { since = moment.since; until = extends_add e (record { start = mid.start; events = new ++ mid.events }) log moment.until })))
    (two (record { start = mid.start; events = e ∷ new ++ mid.events }) (record { since = (e ∷ new, refl, refl); until = extends_self _ }))

pub joined : (entry mid exit : Log) (P : Log → Type 0)
    → Extends exit mid → EachMoment entry mid P → EachMoment mid exit P → EachMoment entry exit P
joined entry mid exit P later one two = let same : exit ≡ record { start = mid.start; events = later.0 ++ mid.events } =
    same_log exit (record { start = mid.start; events = later.0 ++ mid.events }) later.1 later.2 in
    subst (λ (l : Log). EachMoment entry l P) (sym same) (grow later.0 entry mid P one (subst (λ (l : Log). EachMoment mid l P) same two))

moments_go_on : (g : Grade) (w : Work) (acts : List Act) (a : Act) (s : State) (first old new : Option Told)
    → EachIsMidway s.file g w acts first old
    → EachIsGood g s (kept (work_after s.file w acts)) (kept (next s.file (work_after s.file w acts) a.given a.command).0) old new
    → EachIsMidway s.file g w (acts ++ a ∷ []) first new
moments_go_on g w acts a s None None None one two = tt
moments_go_on g w acts a s None None (Some n) one two = absurd two
moments_go_on g w acts a s None (Some o) new one two = absurd one
moments_go_on g w acts a s (Some t) None new one two = absurd one
moments_go_on g w acts a s (Some t) (Some o) None one two = absurd two
moments_go_on g w acts a s (Some t) (Some o) (Some n) one two = (
  extends_on n.log o.log t.log two.0 one.0,
  joined t.log o.log n.log (IsMidway s.file g w (acts ++ a ∷ [])) two.0
      (weaker t.log o.log (IsMidway s.file g w acts) (IsMidway s.file g w (acts ++ a ∷ [])) (λ log is.
      midway_more s.file g w acts a log is) one.1)
      (weaker o.log n.log (IsGoodFor g (format s.file) (shape s.file) (kept (work_after s.file w acts)) (kept (next s.file (work_after s.file w acts) a.given a.command).0)) (IsMidway s.file g w (acts ++ a ∷ [])) (λ log good. midway_good s.file g w acts a log good) two.1),
)

-- ---- the laws

-- what is kept is good where it stands: a command that does nothing
pub good_now : (g : Grade) (s : State) (w : Work) (t : Told)
    → IsKept g s w t.log → EachMoment t.log t.log (IsGoodFor g (format s.file) (shape s.file) (kept w) (kept w))
good_now g s w t k = moments ForRecent Recent s [] (record { checksums = tt; fields = tt }) (λ known x told there.
    record { steps = []; are = tt; does = refl }) g w t k t refl

view_now : (g : Grade) (s : State) (w : Work) (t : Told) → IsKept g s w t.log → LeavesView s.file g w (Some t)
view_now g s w t k image left chance = either_same (HasView s.file g w image) (good_left s.file g (kept w)
    (kept w) t.log (good_now g s w t k t.log (record { since = extends_self t.log; until = extends_self t.log })) image left chance)

midway_now : (s : State) (told : Option Told) (g : Grade) (w : Work) → Keeps g s w told → EachIsMidway s.file g w [] told told
midway_now s None g w k = tt
midway_now s (Some t) g w k = (
  extends_self t.log,
  weaker t.log t.log (IsGoodFor g (format s.file) (shape s.file) (kept w) (kept w)) (IsMidway s.file g w []) (λ log good. record {
    safe = good_safe s.file g (kept w) (kept w) log good;
    left = λ image left chance. either_same (HasView s.file g w image) (good_left s.file g (kept w) (kept w) log good image left chance);
  }) (good_now g s w t k),
)

pub nothing_is_served : NothingIsServed
nothing_is_served s told live = record { file = refl; live = live; told_is = refl; answered = λ g w k. (refl, k); kept_on = λ g w base k. (midway_now s base g w k, k); settles = λ w log k settled. settled; written = λ w k was. was }

-- what was kept goes on being kept where no log is told
pub keeps_alone : (g : Grade) (s : State) (w : Work) (told : Option Told) → Keeps g s w told → Keeps g s w None
keeps_alone g s w None k = k
keeps_alone g s w (Some t) k = let k_is : IsKept g s w t.log = k in ((firmly g s w t.log k_is).sense, k_is.stands)

module _ (s0 s t : State) (told0 told new : Option Told) (acts : List Act) (act : Act) (same : s.file ≡ s0.file) where
  -- the moments of one call more
  one_more_moments : (g : Grade) (w : Work) → EachIsMidway s0.file g w acts told0 told
      → EachIsGood g s (kept (work_after s0.file w acts)) (kept (next s.file (work_after s0.file w acts) act.given act.command).0) told new
      → EachIsMidway s0.file g w (acts ++ act ∷ []) told0 new
  one_more_moments g w one two = subst (λ (file : DataFile). EachIsMidway file g w acts told0 told
      → EachIsGood g s (kept (work_after file w acts)) (kept (next s.file (work_after file w acts) act.given act.command).0) told new
      → EachIsMidway file g w (acts ++ act ∷ []) told0 new) same (moments_go_on g w acts act s told0 told new) one two

  -- the state after one call more
  work_then : (w : Work) → (next s.file (work_after s0.file w acts) act.given act.command).0 ≡ work_after s0.file w (acts ++ act ∷ [])
  work_then w =
      ap (λ (file : DataFile). (next file (work_after s0.file w acts) act.given act.command).0) same ∙ sym (work_more s0.file w acts act)

  answer_then : (w : Work) → (next s.file (work_after s0.file w acts) act.given act.command).1
      ≡ (next s0.file (work_after s0.file w acts) act.given act.command).1
  answer_then w = ap (λ (file : DataFile). (next file (work_after s0.file w acts) act.given act.command).1) same

-- the acts of one call more
acts_more : (xs : List Exchange) (x : Exchange) → acts_in (xs ++ x ∷ []) ≡ acts_in xs ++ x.act ∷ []
acts_more xs x = map-append act_in xs (x ∷ [])

pub one_more_is_served : OneMoreIsServed
one_more_is_served s0 s t told0 told new xs es x served call = let fs = call.events in let acts = acts_in xs in let act = x.act in
    let same = served.file in let more : acts ++ act ∷ [] ≡ acts_in (xs ++ x ∷ []) = sym (acts_more xs x) in
    let then : (w : Work) → (next s.file (work_after s0.file w acts) act.given act.command).0 ≡ work_after
    s0.file w (acts_in (xs ++ x ∷ [])) = λ w. work_then s0 s t told0 told new acts act same w ∙ ap (work_after s0.file w) more in record {
      file = call.file ∙ same;
      live = call.live;
      told_is = call.told ∙ ap (after_all fs) served.told_is ∙ sym (after_append es fs told0);
      answered = λ g w k. let before = served.answered g w k in let on = call.answers g (work_after s0.file w acts) before.1 in (
        map-append answer_in xs (x ∷ []) ∙ (λ i. before.0 i ++ (on.0 ∙ answer_then s0 s t told0 told new acts act same w) i ∷ [])
            ∙ sym (answers_more s0.file w acts act) ∙ ap (answers_of s0.file w) more,
        subst (λ (u : Work). Keeps g t u None) (then w) on.1,
      );
      kept_on = λ g w base k. let before = served.kept_on g w base k in
          let on = call.keeps g (work_after s0.file w acts) (after_all es base) before.1 in
          subst (λ (o : Option Told). EachIsMidway s0.file g w (acts_in (xs ++ x ∷ [])) base o
          × Keeps g t (work_after s0.file w (acts_in (xs ++ x ∷ []))) o) (sym (after_append es fs base)) (
            subst (λ (l : List Act). EachIsMidway s0.file g w l base (after_all fs (after_all es base)))
                more (one_more_moments s0 s t base (after_all es base) (after_all fs (after_all es base)) acts act same g w before.0 on.0),
            subst (λ (u : Work). Keeps g t u (after_all fs (after_all es base))) (then w) on.1.1,
          );
      settles = λ w log k was. let before = served.settles w log k was in let u = work_after s0.file w acts in
          let on = call.settles u (adds es log) (served.answered Firm w k).1 in
          let later : Work = (next s.file u act.given act.command).0 in
          subst (λ (l : Log). AreSettled s0.file l (work_after s0.file w (acts_in (xs ++ x ∷ [])))) (sym (adds_on es fs log))
          (subst (λ (v : Work). AreSettled s0.file (adds fs (adds es log)) v) (then w)
          (subst (λ (file : DataFile). AreSettled file (adds es log) u → AreSettled file (adds fs (adds es log)) later) same on before));
      written = λ w k was. let on = call.written (work_after s0.file w acts) (served.answered Firm w k).1 in
          let later : Work = (next s.file (work_after s0.file w acts) act.given act.command).0 in
          subst (λ (v : Work). IsWrittenIn s0.file new v) (then w)
          (subst (λ (file : DataFile). IsWrittenIn file told (work_after s0.file w acts)
          → IsWrittenIn file new later) same on (served.written w k was));
    }

-- ---- a fault

-- the log at the end of a call is one of its moments
last_moment : (file : DataFile) (g : Grade) (s : State) (v u : View) (t n : Told)
    → s.file ≡ file → EachIsGood g s v u (Some t) (Some n) → IsGoodFor g (format file) (shape file) v u n.log
last_moment file g s v u t n same good = subst (λ (f : DataFile).
    IsGoodFor g (format f) (shape f) v u n.log) same (good.1 n.log (record { since = good.0; until = extends_self n.log }))

leaves_either : (file : DataFile) (g : Grade) (s : State) (w u : Work) (told new : Option Told)
    → s.file ≡ file → EachIsGood g s (kept w) (kept u) told new → LeavesEither file g w u new
leaves_either file g s w u told None same good = tt
leaves_either file g s w u None (Some n) same good = absurd good
leaves_either file g s w u (Some t) (Some n) same good =
    λ image left chance. good_left file g (kept w) (kept u) n.log (last_moment file g s (kept w) (kept u) t n same good) image left chance

pub fault_stops_them : FaultStopsThem
fault_stops_them s0 s t told0 told new xs es act served call = let fs = call.events in let acts = acts_in xs in record {
  told_is = call.told ∙ ap (after_all fs) served.told_is ∙ sym (after_append es fs told0);
  moments = λ g w base k. let before = served.kept_on g w base k in
      subst (λ (o : Option Told). EachIsMidway s0.file g w (acts ++ act ∷ []) base o) (sym (after_append es fs base))
      (one_more_moments s0 s t base (after_all es base) (after_all fs (after_all es base))
      acts act served.file g w before.0 (call.keeps g (work_after s0.file w acts) (after_all es base) before.1).0);
  left = λ g w base k. let before = served.kept_on g w base k in
      let then : Work = (next s.file (work_after s0.file w acts) act.given act.command).0 in subst (λ (o : Option Told).
      LeavesEither s0.file g (work_after s0.file w acts) (work_after s0.file w (acts ++ act ∷ [])) o) (sym (after_append es fs base))
      (subst (λ (x : Work). LeavesEither s0.file g (work_after s0.file w acts) x (after_all fs (after_all es base)))
      (work_then s0 s t told0 told new acts act served.file w)
      (leaves_either s0.file g s (work_after s0.file w acts) then (after_all es base)
      (after_all fs (after_all es base)) served.file (call.keeps g (work_after s0.file w acts) (after_all es base) before.1).0));
}

-- ---- what was answered is there

leaves_kept : (file : DataFile) (g : Grade) (s : State) (w : Work) (told : Option Told)
    → s.file ≡ file → Keeps g s w told → LeavesView file g w told
leaves_kept file g s w None same k = tt
leaves_kept file g s w (Some t) same k = subst (λ (f : DataFile). LeavesView f g w (Some t)) same (view_now g s w t k)

pub answered_is_there : AnsweredIsThere
answered_is_there s0 s told0 told xs es served g w base k =
    leaves_kept s0.file g s (work_after s0.file w (acts_in xs)) (after_all es base) served.file (served.kept_on g w base k).1
