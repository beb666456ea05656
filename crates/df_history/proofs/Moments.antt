-- A history stays lived at each moment of its newest log.
use Rattle.std.proofs.{Common.{Option, Some, None, ◌++◌, ◌≡◌, ◌⊎◌, inl, inr, ℕ, ◌<◌, ◌≤◌, List, [], ◌∷◌, refl, sym, ◌∙◌, ap, subst, arith}, lemmas.Bool.{cases_lt}}
use Rattle.df_theory.{specs.{CopyPuts.{PutsCopies, update_steps}, Units.{AnyUnit, Content, CopyPlace, CopyUnit, Header, Place, PreparePlace, Units, or_else}, Shape.{Shape}, View.{View, boot_of}, Holds.{Holds}, Next.{IsSameBare, booted}, UnitLog.{PutsOne, Stopped, Synced, UnitLog, add, now, settled, wrote}, Chance.{AreFair, EachLeft, InImages, InWrites, NoChance}, First.{AreMade}, Grown.{Grown, Grows, IsSafe}, Rests.{IsGoodLog, IsPrepare, RestsOn}, MakingLaws.{all_puts}, MendLaws.{AllPutCopy, AllPutTable, copy_steps, header_steps, mend_steps}, Runs.{AtEach, Puts, Step, Syncs}}, proofs.Laws.{boot_law, clean_start_law, rests_holds, rests_safe, one_view, no_choice}}
use Rattle.df_history.{specs.{Lives.{Starts}, Histories.{Among, GrowsOn, IsFirstLog, IsLived, IsLivedMoment, MayStart, StaysBare, all_settled}, OpenLaws.{BeginsLaw, BootLivedLaw, FirstGrownLaw, FirstLivedLaw, RestLivedLaw}}, proofs.{Joins.{EndsWith, on_holds, settled_ends}, Mores.{AreShown, grows_more}, Since.{among_low, choice_stays_law, old_boots}}}

pub same_bare : (v : View) → IsSameBare v v
same_bare v = record {
  content = record { file = (refl, refl, refl, refl); sequence = refl; op = (refl, refl); trailer = (refl, refl, refl) };
  chain = refl;
  parts = refl;
  tail = refl;
  replies = refl;
  stored = λ k. refl;
}

-- the oldest of the images is among them
pub ends_among : (images : List Units) (start : Units) → EndsWith images start → Among images start
ends_among [] start ends = ends
ends_among (i ∷ []) start ends = inl (sym ends)
ends_among (i ∷ j ∷ images) start ends = inr (ends_among (j ∷ images) start ends)

pub start_among : (log : UnitLog) → Among (settled log) log.start
start_among log = ends_among (settled log) log.start (settled_ends log.start log.events)

pub made_choice : (c : Content) (images : List Units)
    → AreMade c images → (i : Units) → Among images i → (sh : Shape) (v : View) → Holds sh i v → ⊥
made_choice c [] made i among sh v holds = made
made_choice c (image ∷ images) made i (inl is) sh v holds = no_choice c image images made v.checkpoint.content (rw is at holds).chosen.agreed
made_choice c (image ∷ []) made i (inr none) sh v holds = none
made_choice c (image ∷ before ∷ images) made i (inr there) sh v holds = made_choice c (before ∷ images) made.2 i there sh v holds

-- a log that was begun at a view has grown to one
pub record HasOne (sh : Shape) (log : UnitLog) : Type 0 where
  pub view : View
  pub grows : Grows sh (settled log) view
  pub fair : AreFair log.start log.events

pub grown_one : (sh : Shape) (log : UnitLog) (v : View) → Holds sh log.start v → Grown sh log → HasOne sh log
grown_one sh log v holds (inl grown) = record { view = grown.0; grows = grown.1.grows; fair = grown.1.fair }
grown_one sh log v holds (inr (c, made)) = absurd (made_choice c (settled log) made.made log.start (start_among log) sh v holds)

-- each prepare that is shown now, or is being written, was settled by the same log
abbrev pub IsStill : UnitLog → Type 0
IsStill log = (s : ℕ) (x : AnyUnit)
    → (now log (PreparePlace s) ≡ Some x) ⊎ InWrites log.events (PreparePlace s) x → InImages (settled log) (PreparePlace s) x

pub rests_still : (sh : Shape) (log : UnitLog) (v : View) → RestsOn sh log v → IsStill log
rests_still sh log v rests s x (inl shown) = elim (rests.pooled (PreparePlace s) x shown) [
  | inl old ↦ old
  | inr written ↦ absurd ((rests.calm (PreparePlace s) (rests.pending (PreparePlace s) x written).0).no_prepare tt)
]
rests_still sh log v rests s x (inr written) = absurd ((rests.calm (PreparePlace s) (rests.pending (PreparePlace s) x written).0).no_prepare tt)

-- a write of no prepare
abbrev pub PutsNone : Units → Type 0
PutsNone put = (s : ℕ) → put (PreparePlace s) ≡ None

still_put : (log : UnitLog) (put : Units) → PutsNone put → IsStill log → IsStill (wrote put log)
still_put log put none still s x (inl shown) =
    still s x (inl (ap (λ (o : Option AnyUnit). or_else o (now log (PreparePlace s))) (sym (none s)) ∙ shown))
still_put log put none still s x (inr (inl new)) = absurd (let both : None ≡ Some x = sym (none s) ∙ new in cc)
still_put log put none still s x (inr (inr old)) = still s x (inr old)

abbrev pub AllPutNone : List Step → Type 0
AllPutNone [] = Unit {0}
AllPutNone ((Puts put) ∷ ss) = PutsNone put × AllPutNone ss
AllPutNone (Syncs ∷ ss) = AllPutNone ss

still_sync : (log : UnitLog) → IsStill log → IsStill (add Synced log)
still_sync log still s x (inl shown) = inl shown
still_sync log still s x (inr none) = absurd none

still_stop : (log : UnitLog) (image : Units) → IsStill (add (Stopped image) log)
still_stop log image s x (inl shown) = inl shown
still_stop log image s x (inr none) = absurd none

still_left : (log : UnitLog) (image : Units) → IsStill log → NoChance log image → AreShown (settled log) image
still_left log image still chance s x shown =
    elim (chance.pooled (PreparePlace s) x shown) [ inl old ↦ old | inr written ↦ still s x (inr written) ]

none_one : (put : Units) (place : Place) (x : AnyUnit) → PutsOne put place x → (IsPrepare place → ⊥) → PutsNone put
none_one put place x one away s = go (put (PreparePlace s)) refl
  where
    go : (o : Option AnyUnit) → put (PreparePlace s) ≡ o → put (PreparePlace s) ≡ None
    go None is = is
    go (Some y) is = absurd (away (subst IsPrepare (one.only (PreparePlace s) y is).0 tt))

none_append : (ss ts : List Step) → AllPutNone ss → AllPutNone ts → AllPutNone (ss ++ ts)
none_append [] ts one two = two
none_append ((Puts put) ∷ ss) ts one two = (one.0, none_append ss ts one.1 two)
none_append (Syncs ∷ ss) ts one two = none_append ss ts one two

none_table : (table : ℕ → Header) (puts : List Units) → AllPutTable table puts → AllPutNone (all_puts puts)
none_table table [] all = tt
none_table table (put ∷ puts) all = ((λ s. go s (put (PreparePlace s)) refl), none_table table puts all.1)
  where
    go : (s : ℕ) (o : Option AnyUnit) → put (PreparePlace s) ≡ o → put (PreparePlace s) ≡ None
    go s None is = is
    go s (Some y) is = absurd (let at = (all.0 (PreparePlace s) y is).1 in cc)

pub none_headers : (table : ℕ → Header) (puts : List Units) → AllPutTable table puts → AllPutNone (header_steps puts)
none_headers table [] all = tt
none_headers table (put ∷ puts) all = none_append (all_puts (put ∷ puts)) (Syncs ∷ []) (none_table table (put ∷ puts) all) tt

pub none_copies : (c : Content) (m n : ℕ) (ks : List (ℕ × Units)) → AllPutCopy c m n ks → AllPutNone (copy_steps ks)
none_copies c m n [] all = tt
none_copies c m n (k ∷ ks) all = (none_one k.1 (CopyPlace k.0) (CopyUnit c) all.0 (λ prepare. prepare), none_copies c m n ks all.3)

pub none_mend : (table : ℕ → Header) (headers : List Units) (c : Content) (m n : ℕ) (ks : List (ℕ × Units))
    → AllPutTable table headers → AllPutCopy c m n ks → AllPutNone (mend_steps headers ks)
none_mend table headers c m n ks all copies =
    none_append (header_steps headers) (copy_steps ks) (none_headers table headers all) (none_copies c m n ks copies)

none_update : (c : Content) (puts : PutsCopies c) → AllPutNone (update_steps puts)
none_update c puts = (
  none_one puts.put0 (CopyPlace 0) (CopyUnit c) puts.one0 (λ prepare. prepare),
  (
    none_one puts.put1 (CopyPlace 1) (CopyUnit c) puts.one1 (λ prepare. prepare),
    (none_one puts.put2 (CopyPlace 2) (CopyUnit c) puts.one2 (λ prepare. prepare), (none_one puts.put3 (CopyPlace 3) (CopyUnit c) puts.one3 (λ prepare. prepare), tt)),
  ),
)

-- ---- asleep: each settled image has one of a few views, with one bare view

-- the newest image has one of the views
abbrev pub HeadHas : Shape → (View → Type 0) → List Units → Type 0
HeadHas sh P [] = ⊥
HeadHas sh P (i ∷ images) = (x : View) × P x × Holds sh i x

module _ (sh : Shape) (before : UnitLog) (logs : List UnitLog) (lived : IsLived sh (before ∷ logs))
    (b : ℕ) (P : View → Type 0) (bare : (x y : View) → P x → P y → boot_of x ≡ b → IsSameBare x y) where
  pub record IsAsleep (log : UnitLog) : Type 0 where
    pub start : MayStart before logs log.start
    pub view : View
    pub holds : Holds sh log.start view
    pub boot : boot_of view ≡ b
    pub stays : StaysBare sh b (settled log)
    pub newest : HeadHas sh P (settled log)
    pub last : View
    pub grows : GrowsOn sh (all_settled (before ∷ logs)) (settled log) last
    pub still : IsStill log

  -- the image has one of the views
  abbrev pub Has : Units → Type 0
  Has image = (x : View) × P x × Holds sh image x

  stays_more : (images : List Units) → StaysBare sh b images → HeadHas sh P images → (j : Units) → Has j → StaysBare sh b (j ∷ images)
  stays_more [] stays newest j has = absurd newest
  stays_more (i ∷ images) stays newest j has = (
    (λ u v at_i at_j boot. let u_is = one_view sh i newest.0 u newest.2 at_i in let v_is = one_view sh j has.0 v has.2 at_j in
        rw v_is at (rw u_is at (bare newest.0 has.0 newest.1 has.1 (ap boot_of u_is ∙ boot)))),
    stays,
  )

  asleep_lived : (log : UnitLog) → IsAsleep log → Grown sh log → IsLived sh (log ∷ before ∷ logs)
  asleep_lived log is grown =
      (record { start = is.start; view = is.view; holds = is.holds; newest = is.last; fair = (grown_one sh log is.view is.holds grown).fair; grows = is.grows; stays = rw (sym is.boot) at is.stays }, lived)

  -- while the boot is that of the start, the next image has the same bare view
  bare_or_above : (images : List Units) (u : View) → GrowsOn sh (all_settled (before ∷ logs)) images u
      → HeadHas sh P images → (j : Units) → Has j → (v : View) → Holds sh j v → b ≤ boot_of u → (b < boot_of u) ⊎ IsSameBare u v
  bare_or_above [] u grows newest j has v holds low = absurd newest
  bare_or_above (i ∷ images) u grows newest j has v holds low = elim (cases_lt b (boot_of u)) [
    | inl above ↦ inl above
    | inr not ↦ let u_is = one_view sh i newest.0 u newest.2 (on_holds sh (all_settled (before ∷ logs)) i images u grows) in
        let v_is = one_view sh j has.0 v has.2 holds in
        inr (rw v_is at (rw u_is at (bare newest.0 has.0 newest.1 has.1 (omega (arith, ap boot_of u_is)))))
  ]

  asleep_more : (log : UnitLog) → IsAsleep log → (j : Units) → Has j
      → AreShown (settled log) j → (v : View) → Grows sh (j ∷ settled log) v → GrowsOn sh (all_settled (before ∷ logs)) (j ∷ settled log) v
  asleep_more log is j has shown v grows = let old = old_boots sh before logs log.start is.view lived is.start is.holds in
      let low = among_low sh (all_settled (before ∷ logs)) (settled log) is.last is.grows log.start (start_among log) is.view is.holds in
      grows_more sh (all_settled (before ∷ logs)) (settled log) b j is.last v is.grows grows (λ s p at. omega (arith, old s p at, is.boot))
      (bare_or_above (settled log) is.last is.grows is.newest j has v grows.0 (omega (arith, low, is.boot))) (inr shown)

  asleep_sync : (log : UnitLog) → IsAsleep log → Has (now log) → Grown sh (add Synced log) → IsAsleep (add Synced log)
  asleep_sync log is has grown = let g = grown_one sh (add Synced log) is.view is.holds grown in record {
    start = is.start;
    view = is.view;
    holds = is.holds;
    boot = is.boot;
    stays = stays_more (settled log) is.stays is.newest (now log) has;
    newest = has;
    last = g.view;
    grows = asleep_more log is (now log) has (λ s x at. is.still s x (inl at)) g.view g.grows;
    still = still_sync log is.still;
  }

  asleep_stop : (log : UnitLog) → IsAsleep log
      → (image : Units) → Has image → NoChance log image → Grown sh (add (Stopped image) log) → IsAsleep (add (Stopped image) log)
  asleep_stop log is image has chance grown = let g = grown_one sh (add (Stopped image) log) is.view is.holds grown in record {
    start = is.start;
    view = is.view;
    holds = is.holds;
    boot = is.boot;
    stays = stays_more (settled log) is.stays is.newest image has;
    newest = has;
    last = g.view;
    grows = asleep_more log is image has (still_left log image is.still chance) g.view g.grows;
    still = still_stop log image;
  }

  asleep_put : (log : UnitLog) → IsAsleep log → (put : Units) → PutsNone put → IsAsleep (wrote put log)
  asleep_put log is put none = record { start = is.start; view = is.view; holds = is.holds; boot = is.boot; stays = is.stays; newest = is.newest; last = is.last; grows = is.grows; still = still_put log put none is.still }

  pub record IsAsleepMoment (log : UnitLog) : Type 0 where
    pub safe : IsSafe sh log
    pub left : EachLeft log Has
    pub has : Has (now log)

  pub asleep_moment : (log : UnitLog) → IsAsleep log → IsAsleepMoment log → IsLivedMoment sh (before ∷ logs) log
  asleep_moment log is moment = record {
    lived = asleep_lived log is moment.safe.grown;
    synced = asleep_lived (add Synced log) (asleep_sync log is moment.has moment.safe.synced) moment.safe.synced;
    stopped = λ image left chance. asleep_lived (add (Stopped image) log) (asleep_stop log
        is image (moment.left image left chance) chance (moment.safe.stopped image left chance)) (moment.safe.stopped image left chance);
  }

  pub asleep_steps : (ss : List Step) (log : UnitLog)
      → AllPutNone ss → IsAsleep log → AtEach IsAsleepMoment log ss → AtEach (IsLivedMoment sh (before ∷ logs)) log ss
  asleep_steps [] log none is at = asleep_moment log is at
  asleep_steps ((Puts put) ∷ ss) log none is at =
      (asleep_moment log is at.0, asleep_steps ss (wrote put log) none.1 (asleep_put log is put none.0) at.1)
  asleep_steps (Syncs ∷ ss) log none is at =
      (asleep_moment log is at.0, asleep_steps ss (add Synced log) none (asleep_sync log is at.0.has at.0.safe.synced) at.1)

-- ---- the start

pub one_bare : (w x y : View) → x ≡ w → y ≡ w → IsSameBare x y
one_bare w x y is_x is_y = subst (λ (z : View). IsSameBare z y) (sym is_x) (rw is_y (same_bare w))

pub begins_law : BeginsLaw
begins_law sh log logs shown w lived may places f =
    let clean = (choice_stays_law sh log logs shown w.checkpoint.content lived may f.chosen).clean w refl in
    let rests = clean_start_law sh shown w places f clean in (
      rests,
      asleep_moment sh log logs lived (boot_of w) (λ x.
          x ≡ w) (λ x y is_x is_y boot. one_bare w x y is_x is_y) (record { start = shown; events = [] })
          (record { start = may; view = w; holds = rests.holds; boot = refl; stays = tt; newest = (w, refl, rests.holds); last = w; grows = rests.holds; still = λ s x at. elim at [ inl shown ↦ inl shown | inr none ↦ absurd none ] })
          (record { safe = rests_safe sh (record { start = shown; events = [] }) w rests; left = λ image left chance. (w, refl, rests_holds sh (record { start = shown; events = [] }) w rests image left chance); has = (w, refl, rests.holds) }),
    )

-- ---- the boot update

pub grows_head : (sh : Shape) (P : View → Type 0) (images : List Units) (v : View) → Grows sh images v → P v → HeadHas sh P images
grows_head sh P [] v grows is = grows
grows_head sh P (i ∷ images) v grows is = (v, is, grows.0)

-- a log of a lived history that rests on a view
pub rests_asleep : (sh : Shape) (log before : UnitLog) (logs : List UnitLog) (lived : IsLived sh (log ∷ before ∷ logs))
    (P : View → Type 0) (bare : (x y : View) → P x → P y → boot_of x ≡ boot_of lived.0.view → IsSameBare x y) (w : View)
    → RestsOn sh log w → P w → IsAsleep sh before logs lived.1 (boot_of lived.0.view) P bare log
rests_asleep sh log before logs lived P bare w rests is = record { start = lived.0.start; view = lived.0.view; holds = lived.0.holds; boot = refl; stays = lived.0.stays; newest = grows_head sh P (settled log) w rests.grows is; last = lived.0.newest; grows = lived.0.grows; still = rests_still sh log w rests }

-- a log has one newest view
pub last_is : (sh : Shape) (rest images : List Units) (x y : View) → GrowsOn sh rest images x → Grows sh images y → x ≡ y
last_is sh rest [] x y one two = absurd one
last_is sh rest (i ∷ images) x y one two = one_view sh i x y (on_holds sh rest i images x one) two.0

pub boot_lived_law : BootLivedLaw
boot_lived_law sh log before logs w d puts lived rests dry may copies = let law = boot_law sh log w d puts rests dry may copies in
    let up = law.0 in
    let start_low : boot_of lived.0.view ≤ boot_of w = omega (arith, among_low sh (all_settled (before ∷ logs)) (settled log) lived.0.newest lived.0.grows log.start (start_among log) lived.0.view lived.0.holds, ap boot_of (last_is sh (all_settled (before ∷ logs)) (settled log) lived.0.newest w lived.0.grows rests.grows)) in
    let bare : (x y : View) → (x ≡ w) ⊎ (x ≡ booted w d)
    → (y ≡ w) ⊎ (y ≡ booted w d) → boot_of x ≡ boot_of lived.0.view → IsSameBare x y = two_bare law.1 start_low in
    let old : (l : UnitLog) → IsGoodLog sh w w l
    → Holds sh (now l) w → IsAsleepMoment sh before logs lived.1 (boot_of lived.0.view) (λ x. (x ≡ w) ⊎ (x ≡ booted w d)) bare l =
    λ l good holds. record { safe = good.safe; left = λ image left chance. elim (good.left image left chance) [ inl is ↦ (w, inl refl, is) | inr is ↦ (w, inl refl, is) ]; has = (w, inl refl, holds) } in
    let mid : (l : UnitLog) → IsGoodLog sh w (booted w d) l → Holds sh (now l) (booted w d)
    → IsAsleepMoment sh before logs lived.1 (boot_of lived.0.view) (λ x. (x ≡ w) ⊎ (x ≡ booted w d)) bare l =
    λ l good holds. record { safe = good.safe; left = λ image left chance. elim (good.left image left chance) [ inl is ↦ (w, inl refl, is) | inr is ↦ (booted w d, inr refl, is) ]; has = (booted w d, inr refl, holds) } in
    let new : (l : UnitLog) → IsGoodLog sh (booted w d) (booted w d) l → Holds sh (now l) (booted w d)
    → IsAsleepMoment sh before logs lived.1 (boot_of lived.0.view) (λ x. (x ≡ w) ⊎ (x ≡ booted w d)) bare l =
    λ l good holds. record { safe = good.safe; left = λ image left chance. elim (good.left image left chance) [ inl is ↦ (booted w d, inr refl, is) | inr is ↦ (booted w d, inr refl, is) ]; has = (booted w d, inr refl, holds) } in
    let at : (l : UnitLog) (v : View) → RestsOn sh l v → IsGoodLog sh v v l =
    λ l v rest. record { safe = rests_safe sh l v rest; left = λ image left chance. inl (rests_holds sh l v rest image left chance) } in
    let l0 : UnitLog = wrote puts.put0 log in let l1 : UnitLog = wrote puts.put1 (add Synced l0) in
    let l2 : UnitLog = wrote puts.put2 (add Synced l1) in let l3 : UnitLog = wrote puts.put3 (add Synced l2) in let moments : AtEach
    (IsAsleepMoment sh before logs lived.1 (boot_of lived.0.view) (λ x. (x ≡ w) ⊎ (x ≡ booted w d)) bare) log (update_steps puts) = (
      old log (at log w rests) rests.holds,
      (
        old l0 up.first.good up.first.rests.holds,
        (
          old (add Synced l0) (at (add Synced l0) w up.first.rests) up.first.rests.holds,
          (
            mid l1 up.second.good up.second.rests.holds,
            (
              new (add Synced l1) (at (add Synced l1) (booted w d) up.second.rests) up.second.rests.holds,
              (
                new l2 up.third.good up.third.rests.holds,
                (
                  new (add Synced l2) (at (add Synced l2) (booted w d) up.third.rests) up.third.rests.holds,
                  (new l3 up.fourth.good up.fourth.rests.holds, new (add Synced l3) (at (add Synced l3) (booted w d) up.fourth.rests) up.fourth.rests.holds),
                ),
              ),
            ),
          ),
        ),
      ),
    ) in
    (asleep_steps sh before logs lived.1 (boot_of lived.0.view) (λ x. (x ≡ w) ⊎ (x ≡ booted w d)) bare (update_steps puts) log (none_update d puts) (rests_asleep sh log before logs lived (λ x. (x ≡ w) ⊎ (x ≡ booted w d)) bare w rests (inl refl)) moments, up.leads.rests, law.1)
  where
    two_bare : IsSameBare w (booted w d) → boot_of lived.0.view ≤ boot_of w
        → (x y : View) → (x ≡ w) ⊎ (x ≡ booted w d) → (y ≡ w) ⊎ (y ≡ booted w d) → boot_of x ≡ boot_of lived.0.view → IsSameBare x y
    two_bare same low x y (inl is_x) (inl is_y) boot = one_bare w x y is_x is_y
    two_bare same low x y (inl is_x) (inr is_y) boot = subst (λ (z : View). IsSameBare z y) (sym is_x) (rw (sym is_y) at same)
    two_bare same low x y (inr is_x) other boot = absurd (omega (arith, ap boot_of is_x, may.is.boot))

-- ---- a log that rests on a view

pub rest_lived_law : RestLivedLaw
rest_lived_law sh log before logs v lived rests =
    asleep_moment sh before logs lived.1 (boot_of lived.0.view) (λ x. x ≡ v) (λ x y is_x is_y boot. one_bare v x y is_x is_y)
    log (rests_asleep sh log before logs lived (λ x. x ≡ v) (λ x y is_x is_y boot. one_bare v x y is_x is_y) v rests refl)
    (record { safe = rests_safe sh log v rests; left = λ image left chance. (v, refl, rests_holds sh log v rests image left chance); has = (v, refl, rests.holds) })

-- ---- the first log

first_of_grown : (sh : Shape) (log : UnitLog) (start : Units) → log.start ≡ start
    → Grown sh log → ((place : Place) → start place ≡ None) ⊎ ((w : View) × Holds sh start w × Starts start [] w) → IsFirstLog sh log
first_of_grown sh log start is grown (inl blank) = inl (grown, λ place. ap (λ (i : Units). i place) is ∙ blank place)
first_of_grown sh log start is (inl grown) (inr (w, holds, starts)) = inr (w, grown.0, rw (sym is) at holds, rw (sym is) at starts, grown.1)
first_of_grown sh log start is (inr (c, made)) (inr (w, holds, starts)) =
    absurd (made_choice c (settled log) made.made log.start (start_among log) sh w (rw (sym is) at holds))

pub first_grown_law : FirstGrownLaw
first_grown_law sh log grown start = first_of_grown sh log log.start refl grown start

pub first_lived_law : FirstLivedLaw
first_lived_law sh log safe start = record {
  lived = first_of_grown sh log log.start refl safe.grown start;
  synced = first_of_grown sh (add Synced log) log.start refl safe.synced start;
  stopped = λ image left chance. first_of_grown sh (add (Stopped image) log) log.start refl (safe.stopped image left chance) start;
}
