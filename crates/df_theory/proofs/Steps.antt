-- Events, one after another, on logs that are quiet but for free blocks.
use Rattle.std.proofs.{Common.{◌≡◌, ◌⊎◌, inl, inr, arith, Bool, true, false, ◌||◌, List, [], ◌∷◌, length, Option, Some, None, refl, sym, ◌∙◌, ap}, lemmas.Bool.{cases_Bool}}
use Rattle.df_theory.{specs.{Units.{AnyUnit, BlockPlace, CopyPlace, HeaderPlace, Place, PreparePlace, PrepareUnit, ReplyPlace, Units, is_some, or_else, overlay}, Shape.{Shape}, View.{Checkpoint, View}, Shows.{Agrees}, Holds.{Holds, Sound}, Next.{Same}, UnitLog.{IsLeftBy, Synced, UnitLog, add, loose, now, settled, wrote}, Chance.{AreFair, EachLeft, InImages, InPool}, First.{AreMade, IsMade}, Grown.{Begins, GoesOn, Grows, HasGrown, IsSafe}, Rests.{IsCalm, IsCalmPut, RestsOn, Stepped}}, proofs.{Grew.{Stays, agrees_grew, next_grew}, Images.{bears_open, chosen_same, short_same}, Torn.{IsPooled, Outcome, Tear, Kept, Loose, Touched, Torn, TornView}}}

pub grows_holds : (sh : Shape) (image : Units) (images : List Units) (v : View) → Grows sh (image ∷ images) v → Holds sh image v
grows_holds sh image images v grows = grows.0

pub made_agrees : (sh : Shape) (v : View) (place : Place) (x : AnyUnit) → IsMade v.checkpoint.content place x → Agrees sh v place x
made_agrees sh v (CopyPlace n) x made = (v.checkpoint.content, made, λ differs. inl refl)
made_agrees sh v (HeaderPlace s) x made = (
  made.0,
  made.1,
  record {
    op = λ same. omega (arith, made.2.op);
    ring = omega (arith, made.2.op);
    checkpoint = omega (arith, made.2.checkpoint);
    boot = omega (arith, made.2.boot);
    slot = λ above. absurd (omega (arith, made.2.op));
    in_tail = λ same above. absurd (omega (arith, made.2.op));
  },
)
made_agrees sh v (PreparePlace s) x made = absurd made
made_agrees sh v (ReplyPlace k) x made = absurd made
made_agrees sh v (BlockPlace a) x made = absurd made

images_made : (sh : Shape) (v : View) (images : List Units)
    → AreMade v.checkpoint.content images → (place : Place) (x : AnyUnit) → InImages images place x → Agrees sh v place x
images_made sh v [] made place x at = absurd at
images_made sh v (image ∷ []) made place x (inl here) = absurd (let no_unit : Some x ≡ None = sym here ∙ made place in cc)
images_made sh v (image ∷ []) made place x (inr there) = absurd there
images_made sh v (image ∷ before ∷ images) made place x (inl here) = made_agrees sh v place x (made.0 place x here)
images_made sh v (image ∷ before ∷ images) made place x (inr there) = images_made sh v (before ∷ images) made.2 place x there

begins_agrees : (sh : Shape) (v : View) (image : Units) (images : List Units)
    → Begins sh image images v → (place : Place) (x : AnyUnit) → InImages images place x → Agrees sh v place x
begins_agrees sh v image [] begins place x at = absurd at
begins_agrees sh v image (before ∷ images) begins place x at = images_made sh v (before ∷ images) begins.2 place x at

pub grows_sound : (sh : Shape) (images : List Units) (u : View) → Grows sh images u → Sound sh u
grows_sound sh [] u grows = absurd grows
grows_sound sh (image ∷ images) u grows = grows.0.bears.sound

-- a step that keeps the head
pub goes_same : (images : List Units) (v : View) → GoesOn images v v
goes_same images v = record { next = Same; clear = inl (refl, refl) }

-- what was settled before a step stays as the step needs it
pub stays_on : (sh : Shape) (images : List Units) (u v : View)
    → Grows sh images u → GoesOn images u v → (place : Place) (x : AnyUnit) → InImages images place x → Stays u v place x
stays_on sh images u v grows goes place x at = elim goes.clear [
  | inl same ↦ inl (omega (arith, ap (λ (b : Checkpoint). b.content.op) same.0, ap length same.1))
  | inr (inl more) ↦ inr (inl more)
  | inr (inr clear) ↦ inr (inr (λ s p is unit own. clear s p (rw is at (rw unit at at)) own))
]

-- every settled unit agrees with the newest view
pub old_agrees : (sh : Shape) (images : List Units) (v : View)
    → Grows sh images v → (place : Place) (x : AnyUnit) → InImages images place x → Agrees sh v place x
old_agrees sh [] v grows place x at = absurd at
old_agrees sh (image ∷ images) v grows place x (inl here) = grows.0.bears.agrees place x here
old_agrees sh (image ∷ images) v grows place x (inr there) = elim grows.1 [
  | inl begins ↦ begins_agrees sh v image images begins place x there
  | inr later ↦ agrees_grew sh later.1.0 v (next_grew sh later.1.0 v (grows_sound sh images later.1.0 later.1.2) later.1.1.next)
      place x (stays_on sh images later.1.0 v later.1.2 later.1.1 place x there) (old_agrees sh images later.1.0 later.1.2 place x there)
]

pub grows_more : (sh : Shape) (images : List Units) (v : View) (j : Units)
    → Grows sh images v → (o : Outcome sh images v j) → Grows sh (j ∷ images) o.view
grows_more sh images v j grows o = (o.holds, inr (o.history, (v, o.next, grows)))

-- A log is safe where each image that a stop may leave has a next view.
pub safe_if : (sh : Shape) (log : UnitLog) (v : View) → AreFair log.start log.events → Grows sh (settled log) v → IsPooled log (now log)
    → ((j : Units) → IsLeftBy log j → IsPooled log j → Outcome sh (settled log) v j) → IsSafe sh log
safe_if sh log v fair grows here each = let o = each (now log) (λ place firm. refl) here in record {
  grown = inl (v, record { fair = fair; grows = grows });
  synced = inl (o.view, record { fair = fair; grows = grows_more sh (settled log) v (now log) grows o });
  stopped = λ image left chance. let p = each image left chance.pooled in
      inl (p.view, record { fair = (left, chance, fair); grows = grows_more sh (settled log) v image grows p });
}

-- a log that has just been synced rests on its view
pub synced_rests : (sh : Shape) (log : UnitLog) (v : View) → HasGrown sh (add Synced log) v → RestsOn sh (add Synced log) v
synced_rests sh log v g = record {
  fair = g.fair;
  grows = g.grows;
  old = old_agrees sh (settled (add Synced log)) v g.grows;
  holds = grows_holds sh (now log) (settled log) v g.grows;
  calm = λ place is. absurd (cc);
  pending = λ place x none. absurd none;
  pooled = λ place x is. inl (inl is);
}

-- nothing that is loose matters: each image left has the view
pub rests_left : (sh : Shape) (log : UnitLog) (v : View)
    → RestsOn sh log v → (j : Units) → IsLeftBy log j → IsPooled log j → Outcome sh (settled log) v j
rests_left sh log v rest j left pooled = record {
  view = v;
  next = goes_same (settled log) v;
  holds = record {
    bears = bears_open sh v (now log) j rest.holds.bears (λ place. elim (cases_Bool (loose log place)) [
      | inl is ↦ inr (record {
        needless = (rest.calm place is).needless;
        agrees = λ x shown. elim (pooled place x shown) [
          | inl old ↦ rest.old place x old
          | inr new ↦ (rest.pending place x new).1.agrees
        ];
      })
      | inr firm ↦ inl (left place firm)
    ]);
    chosen = chosen_same (now log) j v.checkpoint.content (λ n. elim (cases_Bool (loose log (CopyPlace n))) [
      | inl is ↦ absurd ((rest.calm (CopyPlace n) is).no_copy tt)
      | inr firm ↦ left (CopyPlace n) firm
    ]) rest.holds.chosen;
    short = short_same sh (now log) j v (λ s. elim (cases_Bool (loose log (PreparePlace s))) [
      | inl is ↦ absurd ((rest.calm (PreparePlace s) is).no_prepare tt)
      | inr firm ↦ left (PreparePlace s) firm
    ]) rest.holds.short;
  };
  history = λ place x is. inl (elim (pooled place x is) [
    | inl old ↦ inl old
    | inr new ↦ (rest.pending place x new).1.history
  ]);
}

pub rests_safe : (sh : Shape) (log : UnitLog) (v : View) → RestsOn sh log v → IsSafe sh log
rests_safe sh log v rest = safe_if sh log v rest.fair rest.grows rest.pooled (rests_left sh log v rest)

pub rests_holds : (sh : Shape) (log : UnitLog) (v : View) → RestsOn sh log v → EachLeft log (λ j. Holds sh j v)
unfolding rests_left
rests_holds sh log v rest j left chance = (rests_left sh log v rest j left chance.pooled).holds

-- THE STEP: a write of whole units.
module _ (sh : Shape) (log : UnitLog) (v : View) (put : Units) (rest : RestsOn sh log v) where
  shown_put : (place : Place) (x : AnyUnit)
      → or_else (put place) (now log place) ≡ Some x → (o : Option AnyUnit) → put place ≡ o → InPool (wrote put log) place x
  shown_put place x is (Some y) at = inr (inl (at ∙ sym (ap (λ (o : Option AnyUnit). or_else o (now log place)) at) ∙ is))
  shown_put place x is None at = elim (rest.pooled place x (sym (ap (λ (o : Option AnyUnit). or_else o (now log place)) at) ∙ is)) [
    | inl old ↦ inl old
    | inr new ↦ inr (inr new)
  ]

  pub wrote_pooled : IsPooled (wrote put log) (now (wrote put log))
  wrote_pooled place x is = shown_put place x is (put place) refl

  kept_same : (j : Units) → IsLeftBy (wrote put log) j → (place : Place) → loose log place ≡ false → put place ≡ None → j place ≡ now log place
  kept_same j left place firm none = left place (λ i. is_some (none i) || firm i) ∙ (λ i. or_else (none i) (now log place))

  tear_at : (j : Units) → IsLeftBy (wrote put log) j → IsPooled (wrote put log) j
      → (place : Place) → (o : Option AnyUnit) → put place ≡ o → (b : Bool) → loose log place ≡ b → Tear sh log v put j place
  tear_at j left pooled place o is true wet = Loose wet (rest.calm place wet) (λ x shown. elim (pooled place x shown) [
    | inl old ↦ inl (record { agrees = rest.old place x old; history = inl old })
    | inr (inl new) ↦ inr new
    | inr (inr pending) ↦ inl (rest.pending place x pending).1
  ])
  tear_at j left pooled place None is false firm = Kept is (kept_same j left place firm is)
  tear_at j left pooled place (Some y) is false firm = Touched y is (λ x shown. elim (pooled place x shown) [
    | inl old ↦ inl (old, rest.old place x old)
    | inr (inl new) ↦ inr (let one : Some x ≡ Some y = sym new ∙ is in cc)
    | inr (inr pending) ↦ absurd (cc ((rest.pending place x pending).0, firm))
  ])

  pub left_torn : (j : Units) → IsLeftBy (wrote put log) j → IsPooled (wrote put log) j → Torn sh log v put j
  left_torn j left pooled place = tear_at j left pooled place (put place) refl (loose log place) refl

  pub torn_outcome : (j : Units) (u : View)
      → GoesOn (settled log) v u → IsPooled (wrote put log) j → TornView sh log v put j u → Outcome sh (settled log) v j
  torn_outcome j u next pooled t = record {
    view = u;
    next = next;
    holds = t.holds;
    history = λ place x is. inl (elim (pooled place x is) [
      | inl old ↦ inl old
      | inr (inl new) ↦ t.history place x (inr new) is
      | inr (inr pending) ↦ t.history place x (inl (rest.pending place x pending)) is
    ]);
  }

  -- the log after the write and a sync rests on its view
  pub write_synced : (u : View)
      → GoesOn (settled log) v u → TornView sh log v put (overlay put (now log)) u → RestsOn sh (add Synced (wrote put log)) u
  unfolding torn_outcome
  write_synced u next t = synced_rests sh (wrote put log) u (record { fair = rest.fair; grows = grows_more sh (settled log) v (now (wrote put log)) rest.grows (torn_outcome (overlay put (now log)) u next wrote_pooled t) })

  pub step : (u : View) → GoesOn (settled log) v u → ((j : Units) → Torn sh log v put j
      → TornView sh log v put j v ⊎ TornView sh log v put j u) → TornView sh log v put (overlay put (now log)) u → Stepped sh log put v u
  step u next each done = record {
    good = record {
      safe = safe_if sh (wrote put log) v rest.fair rest.grows wrote_pooled (λ j left pooled. elim (each j (left_torn j left pooled)) [
        | inl before ↦ torn_outcome j v (goes_same (settled log) v) pooled before
        | inr after ↦ torn_outcome j u next pooled after
      ]);
      left = λ j left chance. elim (each j (left_torn j left chance.pooled)) [
        | inl before ↦ inl before.holds
        | inr after ↦ inr after.holds
      ];
    };
    rests = write_synced u next done;
  }

  -- a write that the view doesn't see may stay loose
  pub calm_rest : IsCalmPut sh (settled log) v put → Holds sh (now (wrote put log)) v → RestsOn sh (wrote put log) v
  calm_rest calm holds = record {
    fair = rest.fair;
    grows = rest.grows;
    old = rest.old;
    holds = holds;
    calm = λ place wet. calm_at place (put place) refl wet;
    pending = λ place x at. elim at [
      | inl new ↦ (λ i. is_some (new i) || loose log place, (calm place x new).1)
      | inr old ↦ (wet_more place (rest.pending place x old).0, (rest.pending place x old).1)
    ];
    pooled = wrote_pooled;
  }
    where
      wet_more : (place : Place) → loose log place ≡ true → is_some (put place) || loose log place ≡ true
      wet_more place wet = go (is_some (put place))
        where
          go : (b : Bool) → b || loose log place ≡ true
          go true = refl
          go false = wet

      calm_at : (place : Place) → (o : Option AnyUnit) → put place ≡ o → is_some (put place) || loose log place ≡ true → IsCalm sh v place
      calm_at place (Some y) is wet = (calm place y is).0
      calm_at place None is wet = rest.calm place ((λ i. is_some (sym is i) || loose log place) ∙ wet)
