-- What a write of whole units leaves, as views.
use Rattle.std.proofs.Common.{◌≡◌, ◌⊎◌, inl, inr, ℕ, Option, Some, None, refl, sym, ◌∙◌, ap, subst}
use Rattle.df_theory.{specs.{Units.{AnyUnit, BlockPlace, CopyPlace, HeaderPlace, Place, PreparePlace, ReplyPlace, Units, or_else, overlay}, Shape.{Shape}, Copies.{IsChosen}, View.{Checkpoint, View, head}, Shows.{Agrees, Needs}, Holds.{Sound}, Next.{Next}, UnitLog.{PutsOne, UnitLog, now, settled, wrote}, Chance.{InImages}, Grown.{InView}, Rests.{IsBlock, IsCalmPut, IsCopy, IsPrepare, IsQuiet, RestsOn, Stepped}, Groups.{IsShort}}, proofs.{Grew.{Grew, agrees_grew}, Images.{IsOpen, bears_open, chosen_same, short_same}, Torn.{Tear, Kept, Loose, Touched, Torn, TornView}, Steps.{step, calm_rest, goes_same}}}

pub block_agrees : (sh : Shape) (v : View) (place : Place) (x : AnyUnit) → IsBlock place → Agrees sh v place x
block_agrees sh v (CopyPlace n) x block = absurd block
block_agrees sh v (HeaderPlace s) x block = absurd block
block_agrees sh v (PreparePlace s) x block = absurd block
block_agrees sh v (ReplyPlace k) x block = absurd block
block_agrees sh v (BlockPlace a) x block = tt

pub block_in_view : (v : View) (place : Place) (x : AnyUnit) → IsBlock place → InView v place x
block_in_view v (CopyPlace n) x block = absurd block
block_in_view v (HeaderPlace s) x block = absurd block
block_in_view v (PreparePlace s) x block = absurd block
block_in_view v (ReplyPlace k) x block = absurd block
block_in_view v (BlockPlace a) x block = tt

-- the write itself is one that is torn nowhere
overlay_at : (sh : Shape) (log : UnitLog) (v : View) (put : Units) (place : Place)
    → (o : Option AnyUnit) → put place ≡ o → Tear sh log v put (overlay put (now log)) place
overlay_at sh log v put place None is = Kept is (ap (λ (o : Option AnyUnit). or_else o (now log place)) is)
overlay_at sh log v put place (Some y) is =
    Touched y is (λ x shown. inr (let one : Some x ≡ Some y = sym shown ∙ ap (λ (o : Option AnyUnit). or_else o (now log place)) is in cc))

pub overlay_torn : (sh : Shape) (log : UnitLog) (v : View) (put : Units) → Torn sh log v put (overlay put (now log))
overlay_torn sh log v put place = overlay_at sh log v put place (put place) refl

-- ---- a write that the view doesn't see: header sectors, free blocks, mending

module _ (sh : Shape) (log : UnitLog) (v : View) (put : Units) (rest : RestsOn sh log v) (calm : IsCalmPut sh (settled log) v put) where
  calm_at : (j : Units) (place : Place) → Tear sh log v put j place → (j place ≡ now log place) ⊎ IsOpen sh v j place
  calm_at j place (Kept none same) = inl same
  calm_at j place (Loose wet place_calm shows) = inr (record {
    needless = place_calm.needless;
    agrees = λ x shown. elim (shows x shown) [
      | inl may ↦ may.agrees
      | inr new ↦ (calm place x new).1.agrees
    ];
  })
  calm_at j place (Touched y is shows) = inr (record {
    needless = (calm place y is).0.needless;
    agrees = λ x shown. elim (shows x shown) [
      | inl old ↦ old.1
      | inr new ↦ rw (sym new) at (calm place y is).1.agrees
    ];
  })

  calm_copy : (j : Units) (n : ℕ) → Tear sh log v put j (CopyPlace n) → j (CopyPlace n) ≡ now log (CopyPlace n)
  calm_copy j n (Kept none same) = same
  calm_copy j n (Loose wet place_calm shows) = absurd (place_calm.no_copy tt)
  calm_copy j n (Touched y is shows) = absurd ((calm (CopyPlace n) y is).0.no_copy tt)

  calm_prepare : (j : Units) (s : ℕ) → Tear sh log v put j (PreparePlace s) → j (PreparePlace s) ≡ now log (PreparePlace s)
  calm_prepare j s (Kept none same) = same
  calm_prepare j s (Loose wet place_calm shows) = absurd (place_calm.no_prepare tt)
  calm_prepare j s (Touched y is shows) = absurd ((calm (PreparePlace s) y is).0.no_prepare tt)

  pub calm_torn : (j : Units) → Torn sh log v put j → TornView sh log v put j v
  calm_torn j torn = record {
    holds = record { bears = bears_open sh v (now log) j rest.holds.bears (λ place. calm_at j place (torn place)); chosen = chosen_same (now log) j v.checkpoint.content (λ n. calm_copy j n (torn (CopyPlace n))) rest.holds.chosen; short = short_same sh (now log) j v (λ s. calm_prepare j s (torn (PreparePlace s))) rest.holds.short };
    history = λ place y is shown. elim is [
      | inl may ↦ may.1.history
      | inr new ↦ (calm place y new).1.history
    ];
  }

  pub calm_step : Stepped sh log put v v
  calm_step = step sh log v put rest v (goes_same (settled log) v) (λ j torn.
      inl (calm_torn j torn)) (calm_torn (overlay put (now log)) (overlay_torn sh log v put))

  -- it may stay loose
  pub calm_stays : RestsOn sh (wrote put log) v
  calm_stays = calm_rest sh log v put rest calm (calm_torn (overlay put (now log)) (overlay_torn sh log v put)).holds

-- ---- a write of one unit that leads to the next view

pub record IsOneStep (sh : Shape) (v u : View) (place : Place) (x : AnyUnit) : Type 0 where
  pub next : Next v u
  pub grew : Grew v u
  pub sound : Sound sh u
  pub checkpoint : u.checkpoint ≡ v.checkpoint
  pub tail : u.tail ≡ v.tail
  pub head_is : head u ≡ head v
  pub short : (j : Units) → IsShort sh j v → IsShort sh j u
  pub no_copy : IsCopy place → ⊥
  pub no_prepare : IsPrepare place → ⊥
  pub no_block : IsBlock place → ⊥
  pub needless : (y : AnyUnit) → Needs sh v place y → ⊥
  pub agrees : Agrees sh u place x
  pub history : InView u place x
  pub needs : (other : Place) (y : AnyUnit) → Needs sh u other y → Needs sh v other y ⊎ ((other ≡ place) × (y ≡ x))

module _ (sh : Shape) (log : UnitLog) (v u : View) (put : Units) (place : Place)
    (x : AnyUnit) (rest : RestsOn sh log v) (quiet : IsQuiet log) (one : PutsOne put place x) (leads : IsOneStep sh v u place x) where
  one_copy : (j : Units) (n : ℕ) → Tear sh log v put j (CopyPlace n) → j (CopyPlace n) ≡ now log (CopyPlace n)
  one_copy j n (Kept none same) = same
  one_copy j n (Loose wet place_calm shows) = absurd (place_calm.no_copy tt)
  one_copy j n (Touched y is shows) = absurd (leads.no_copy (subst IsCopy (one.only (CopyPlace n) y is).0 tt))

  one_prepare : (j : Units) (s : ℕ) → Tear sh log v put j (PreparePlace s) → j (PreparePlace s) ≡ now log (PreparePlace s)
  one_prepare j s (Kept none same) = same
  one_prepare j s (Loose wet place_calm shows) = absurd (place_calm.no_prepare tt)
  one_prepare j s (Touched y is shows) = absurd (leads.no_prepare (subst IsPrepare (one.only (PreparePlace s) y is).0 tt))

  one_short : (j : Units) → Torn sh log v put j → IsShort sh j v
  one_short j torn = short_same sh (now log) j v (λ s. one_prepare j s (torn (PreparePlace s))) rest.holds.short

  -- it didn't take
  before_at : (j : Units) → ((y : AnyUnit) → j place ≡ Some y → Agrees sh v place y)
      → (other : Place) → Tear sh log v put j other → (j other ≡ now log other) ⊎ IsOpen sh v j other
  before_at j old other (Kept none same) = inl same
  before_at j old other (Loose wet place_calm shows) =
      inr (record { needless = place_calm.needless; agrees = λ y shown. block_agrees sh v other y (quiet other wet) })
  before_at j old other (Touched y is shows) = inr (rw ((one.only other y is).0) (record { needless = leads.needless; agrees = old }))

  one_before : (j : Units) → Torn sh log v put j
      → ((y : AnyUnit) → j place ≡ Some y → InImages (settled log) place y × Agrees sh v place y) → TornView sh log v put j v
  one_before j torn old = record {
    holds = record { bears = bears_open sh v (now log) j rest.holds.bears (λ other. before_at j (λ y shown. (old y shown).1) other (torn other)); chosen = chosen_same (now log) j v.checkpoint.content (λ n. one_copy j n (torn (CopyPlace n))) rest.holds.chosen; short = one_short j torn };
    history = λ other y is shown. elim is [
      | inl may ↦ may.1.history
      | inr new ↦ let at = (one.only other y new).0 in inl (rw (sym at) at (old y (ap j (sym at) ∙ shown)).0)
    ];
  }

  -- it took
  after_agrees : (j : Units) (other : Place) (y : AnyUnit) → j other ≡ Some y → Tear sh log v put j other → Agrees sh u other y
  after_agrees j other y shown (Kept none same) =
      agrees_grew sh v u leads.grew other y (inl leads.head_is) (rest.holds.bears.agrees other y (sym same ∙ shown))
  after_agrees j other y shown (Loose wet place_calm shows) = block_agrees sh u other y (quiet other wet)
  after_agrees j other y shown (Touched z is shows) = elim (shows y shown) [
    | inl old ↦ agrees_grew sh v u leads.grew other y (inl leads.head_is) old.1
    | inr new ↦ let at = one.only other z is in rw (sym at.0) at (rw (sym (new ∙ at.1)) at leads.agrees)
  ]

  after_old : (j : Units) (other : Place) (y : AnyUnit) → Needs sh v other y → Tear sh log v put j other → j other ≡ Some y
  after_old j other y need (Kept none same) = same ∙ rest.holds.bears.needs other y need
  after_old j other y need (Loose wet place_calm shows) = absurd (place_calm.needless y need)
  after_old j other y need (Touched z is shows) = absurd (leads.needless y (rw (one.only other z is).0 at need))

  after_needs : (j : Units) → Torn sh log v put j → j place ≡ Some x → (other : Place) (y : AnyUnit) → Needs sh u other y → j other ≡ Some y
  after_needs j torn shown other y need = elim (leads.needs other y need) [
    | inl old ↦ after_old j other y old (torn other)
    | inr new ↦ ap j new.0 ∙ shown ∙ ap Some (sym new.1)
  ]

  pub one_after : (j : Units) → Torn sh log v put j → j place ≡ Some x → TornView sh log v put j u
  one_after j torn shown = record {
    holds = record {
      bears = record { sound = leads.sound; agrees = λ other y is. after_agrees j other y is (torn other); needs = after_needs j torn shown };
      chosen = rw (sym leads.checkpoint) at
          (chosen_same (now log) j v.checkpoint.content (λ n. one_copy j n (torn (CopyPlace n))) rest.holds.chosen);
      short = leads.short j (one_short j torn);
    };
    history = λ other y is there. elim is [
      | inl may ↦ inr (block_in_view u other y (quiet other may.0))
      | inr new ↦ let at = one.only other y new in inr (rw (sym at.0) at (rw (sym at.1) at leads.history))
    ];
  }

  one_cases : (j : Units) → Tear sh log v put j place → (o : Option AnyUnit)
      → j place ≡ o → ((y : AnyUnit) → j place ≡ Some y → InImages (settled log) place y × Agrees sh v place y) ⊎ (j place ≡ Some x)
  one_cases j tear None is = inl (λ y shown. absurd (let no_unit : None ≡ Some y = sym is ∙ shown in cc))
  one_cases j (Kept none same) (Some y) is = absurd (let no_unit : Some x ≡ None = sym one.at ∙ none in cc)
  one_cases j (Loose wet place_calm shows) (Some y) is = absurd (leads.no_block (quiet place wet))
  one_cases j (Touched z at shows) (Some y) is = elim (shows y is) [
    | inl old ↦ inl (λ w shown. let same : y ≡ w = (let both : Some y ≡ Some w = sym is ∙ shown in cc) in rw same at old)
    | inr new ↦ inr (is ∙ ap Some (new ∙ (one.only place z at).1))
  ]

  pub one_torn : (j : Units) → Torn sh log v put j → TornView sh log v put j v ⊎ TornView sh log v put j u
  one_torn j torn = elim (one_cases j (torn place) (j place) refl) [
    | inl old ↦ inl (one_before j torn old)
    | inr new ↦ inr (one_after j torn new)
  ]

  pub one_step : Stepped sh log put v u
  one_step = step sh log v put rest u (record { next = leads.next; clear = inl (leads.checkpoint, leads.tail) }) one_torn
      (one_after (overlay put (now log)) (overlay_torn sh log v put) (ap (λ (o : Option AnyUnit). or_else o (now log place)) one.at))
