-- The four copies of a new superblock, one after another.
use Rattle.std.proofs.{Common.{◌≡◌, ◌⊎◌, inl, inr, ℕ, ◌+◌, ◌<◌, true, false, Option, Some, None, refl, sym, ◌∙◌, ap, subst, arith}, lemmas.Bool.{cases_eq}}
use Rattle.df_theory.{specs.{Units.{AnyUnit, Block, BlockPlace, BlockUnit, Content, CopyPlace, CopyUnit, HeaderPlace, Message, Place, PreparePlace, ReplyPlace, Units, or_else, overlay}, Shape.{Shape}, Copies.{Agree, IsNextContent, rank_of}, Trailer.{InChain}, View.{View, boot_of, head}, Shows.{Agrees, AgreesCopy, Needs}, Holds.{Bears, Sound}, Next.{Next}, UnitLog.{PutsOne, UnitLog, loose, now, settled}, Chance.{InImages}, Grown.{InView, IsClear}, Rests.{AgreeBeside, IsQuiet, RestsOn, MaySettle, Stepped}, Tails.{In}, Groups.{IsShort}}, proofs.{Grew.{Grew, agrees_grew, next_grew}, Choices.{chosen_above}, Torn.{Tear, Kept, Loose, Touched, Torn, TornView}, Images.{IsClearIn, IsOpen, bears_open, short_clear, short_same}, Puts.{block_agrees, block_in_view, overlay_torn}, Steps.{goes_same, step}, CopyVotes.{IsStage, agree_at, chosen_first, chosen_last, chosen_not_yet, chosen_second}}}

-- ---- one copy, torn

module _ (sh : Shape) (log : UnitLog) (w : View) (put : Units)
    (k : ℕ) (old new : Content) (bears : Bears sh (now log) w) (quiet : IsQuiet log) (one : PutsOne put (CopyPlace k) (CopyUnit new)) where
  pub other_copy : (j : Units) (n : ℕ) → (n ≡ k → ⊥) → Tear sh log w put j (CopyPlace n) → j (CopyPlace n) ≡ now log (CopyPlace n)
  other_copy j n away (Kept none same) = same
  other_copy j n away (Loose wet place_calm shows) = absurd (place_calm.no_copy tt)
  other_copy j n away (Touched y is shows) = absurd (away (let at = (one.only (CopyPlace n) y is).0 in cc))

  pub stage_torn : (j : Units) → Torn sh log w put j → IsStage (now log) old new k → IsStage j old new k
  stage_torn j torn stage = record {
    low = λ n less. other_copy j n (λ same. omega arith) (torn (CopyPlace n)) ∙ stage.low n less;
    high = λ n more below. other_copy j n (λ same. omega arith) (torn (CopyPlace n)) ∙ stage.high n more below;
  }

  -- the prepares stay
  copy_prepare : (j : Units) (s : ℕ) → Tear sh log w put j (PreparePlace s) → j (PreparePlace s) ≡ now log (PreparePlace s)
  copy_prepare j s (Kept none same) = same
  copy_prepare j s (Loose wet place_calm shows) = absurd (place_calm.no_prepare tt)
  copy_prepare j s (Touched y is shows) = absurd (let at = (one.only (PreparePlace s) y is).0 in cc)

  pub copy_short : (j : Units) (u : View) → Torn sh log w put j → IsShort sh (now log) u → IsShort sh j u
  copy_short j u torn short = short_same sh (now log) j u (λ s. copy_prepare j s (torn (PreparePlace s))) short

  copy_open : (j : Units) → ((x : AnyUnit) → j (CopyPlace k) ≡ Some x → Agrees sh w (CopyPlace k) x)
      → (place : Place) → Tear sh log w put j place → (j place ≡ now log place) ⊎ IsOpen sh w j place
  copy_open j here place (Kept none same) = inl same
  copy_open j here place (Loose wet place_calm shows) =
      inr (record { needless = place_calm.needless; agrees = λ x shown. block_agrees sh w place x (quiet place wet) })
  copy_open j here place (Touched y is shows) = inr (rw ((one.only place y is).0) (record { needless = λ x need. need; agrees = here }))

  pub copy_rests : (j : Units) → Torn sh log w put j → ((x : AnyUnit) → j (CopyPlace k) ≡ Some x → Agrees sh w (CopyPlace k) x) → Bears sh j w
  copy_rests j torn here = bears_open sh w (now log) j bears (λ place. copy_open j here place (torn place))

  -- the copy shows an old unit or the new content
  copy_at : (j : Units) → Tear sh log w put j (CopyPlace k) → (x : AnyUnit)
      → j (CopyPlace k) ≡ Some x → (InImages (settled log) (CopyPlace k) x × Agrees sh w (CopyPlace k) x) ⊎ (x ≡ CopyUnit new)
  copy_at j (Kept none same) x shown = absurd (let no_unit : Some (CopyUnit new) ≡ None = sym one.at ∙ none in cc)
  copy_at j (Loose wet place_calm shows) x shown = absurd (place_calm.no_copy tt)
  copy_at j (Touched y is shows) x shown = elim (shows x shown) [
    | inl before ↦ inl before
    | inr after ↦ inr (after ∙ (one.only (CopyPlace k) y is).1)
  ]

  pub copy_there : (j : Units) → Torn sh log w put j → (o : Option AnyUnit) → j (CopyPlace k) ≡ o → ((x : AnyUnit) → j (CopyPlace k)
      ≡ Some x → InImages (settled log) (CopyPlace k) x × Agrees sh w (CopyPlace k) x) ⊎ (j (CopyPlace k) ≡ Some (CopyUnit new))
  copy_there j torn None is = inl (λ x shown. absurd (let no_unit : None ≡ Some x = sym is ∙ shown in cc))
  copy_there j torn (Some y) is = elim (copy_at j (torn (CopyPlace k)) y is) [
    | inl before ↦ inl (λ x shown. let same : y ≡ x = (let both : Some y ≡ Some x = sym is ∙ shown in cc) in rw same at before)
    | inr after ↦ inr (is ∙ ap Some after)
  ]

  -- where the new content agrees with the view, it may be shown or not
  pub copy_here : AgreesCopy w k new
      → (j : Units) → Torn sh log w put j → (x : AnyUnit) → j (CopyPlace k) ≡ Some x → Agrees sh w (CopyPlace k) x
  copy_here agrees j torn x shown = elim (copy_at j (torn (CopyPlace k)) x shown) [
    | inl before ↦ before.1
    | inr after ↦ (new, after, agrees)
  ]

  pub copy_history : (j : Units) (v : View) → (j (CopyPlace k) ≡ Some (CopyUnit new) → InView v (CopyPlace k) (CopyUnit new)) → (place : Place) (y : AnyUnit) → ((loose log place ≡ true) × MaySettle sh (settled log) w place y) ⊎ (put place ≡ Some y) → j place ≡ Some y → InImages (settled log) place y ⊎ InView v place y
  copy_history j v history place y (inl may) shown = inr (block_in_view v place y (quiet place may.0))
  copy_history j v history place y (inr puts) shown = let at = one.only place y puts in
      let there : j (CopyPlace k) ≡ Some (CopyUnit new) = ap j (sym at.0) ∙ shown ∙ ap Some at.1 in inr (rw at.0 (rw at.1 (history there)))

-- a view with the next content, whose tail and replies are those of this one
pub record IsRaise (sh : Shape) (v u : View) : Type 0 where
  pub next : Next v u
  pub content : IsNextContent v.checkpoint.content u.checkpoint.content
  pub higher : rank_of v.checkpoint.content < rank_of u.checkpoint.content
  pub sound : Sound sh u
  pub head_is : head u ≡ head v
  pub tail : (p : Message) → In p u.tail → In p v.tail
  pub stored : (k : ℕ) → u.stored k ≡ v.stored k

-- what it needs is there
pub checkpoint_rests : (sh : Shape) (j : Units) (v u : View) → Bears sh j v
    → IsRaise sh v u → ((a : ℕ) (b : Block) → InChain a b u.checkpoint.chain → j (BlockPlace a) ≡ Some (BlockUnit b)) → Bears sh j u
checkpoint_rests sh j v u bears raise there = record {
  sound = raise.sound;
  agrees = λ place x shown.
      agrees_grew sh v u (next_grew sh v u bears.sound raise.next) place x (inl raise.head_is) (bears.agrees place x shown);
  needs = needs;
}
  where
    needs : (place : Place) (x : AnyUnit) → Needs sh u place x → j place ≡ Some x
    needs (CopyPlace n) x need = absurd need
    needs (HeaderPlace s) x need = absurd need
    needs (PreparePlace s) x need = bears.needs (PreparePlace s) x (need.0, raise.tail need.0 need.1, need.2, need.3)
    needs (ReplyPlace k) x need = bears.needs (ReplyPlace k) x (need.0, sym (raise.stored k) ∙ need.1, need.2)
    needs (BlockPlace a) x need = there a need.0 need.1 ∙ ap Some (sym need.2)

-- ---- the four steps of an update

torn_later : (sh : Shape) (log : UnitLog) (v u : View) (put j : Units) → Grew v u → head u ≡ head v
    → ((place : Place) → loose log place ≡ false) → (place : Place) → Tear sh log v put j place → Tear sh log u put j place
torn_later sh log v u put j grew level dry place (Kept none same) = Kept none same
torn_later sh log v u put j grew level dry place (Loose wet place_calm shows) = absurd (cc (wet, dry place))
torn_later sh log v u put j grew level dry place (Touched y is shows) = Touched y is (λ x shown. elim (shows x shown) [
  | inl old ↦ inl (old.0, agrees_grew sh v u grew place x (inl level) old.1)
  | inr after ↦ inr after
])

-- copy k shows it
module _ (sh : Shape) (log : UnitLog) (v u : View) (put : Units) (raise : IsRaise sh v u) where
  shown_over : (k : ℕ) → PutsOne put (CopyPlace k) (CopyUnit u.checkpoint.content)
      → overlay put (now log) (CopyPlace k) ≡ Some (CopyUnit u.checkpoint.content)
  shown_over k one = ap (λ (o : Option AnyUnit). or_else o (now log (CopyPlace k))) one.at

  pub stage_next : (k : ℕ) (w : View) → RestsOn sh log w → IsQuiet log → PutsOne put (CopyPlace k) (CopyUnit u.checkpoint.content) → IsStage (now log) v.checkpoint.content u.checkpoint.content k → IsStage (overlay put (now log)) v.checkpoint.content u.checkpoint.content (k + 1)
  stage_next k w rest quiet one stage = let same = stage_torn sh log w put
      k v.checkpoint.content u.checkpoint.content rest.holds.bears quiet one (overlay put (now log)) (overlay_torn sh log w put) stage in
      record {
        low = λ n less. elim (cases_eq n k) [
          | inl here ↦ ap (λ (m : ℕ). overlay put (now log) (CopyPlace m)) here ∙ shown_over k one
          | inr away ↦ same.low n (omega arith)
        ];
        high = λ n more below. same.high n (omega arith) below;
      }

  agrees_first : AgreesCopy v 0 u.checkpoint.content
  agrees_first differs = absurd (differs refl)

  agrees_later : (k : ℕ) → AgreesCopy u k u.checkpoint.content
  agrees_later k differs = inl refl

  -- copy 0: the view stays
  pub update_first : RestsOn sh log v → IsQuiet log → PutsOne put (CopyPlace 0) (CopyUnit u.checkpoint.content)
      → IsStage (now log) v.checkpoint.content u.checkpoint.content 0 → Stepped sh log put v v
  update_first rest quiet one stage = step sh log v put rest v (goes_same (settled log) v) (λ j torn.
      inl (view j torn)) (view (overlay put (now log)) (overlay_torn sh log v put))
    where
      view : (j : Units) → Torn sh log v put j → TornView sh log v put j v
      view j torn = record {
        holds = record {
          bears = copy_rests sh log v put 0 v.checkpoint.content u.checkpoint.content rest.holds.bears quiet one
              j torn (copy_here sh log v put 0 v.checkpoint.content u.checkpoint.content rest.holds.bears quiet one agrees_first j torn);
          chosen = chosen_first j v.checkpoint.content u.checkpoint.content
              raise.higher (stage_torn sh log v put 0 v.checkpoint.content u.checkpoint.content rest.holds.bears quiet one j torn stage);
          short = copy_short sh log v put 0 v.checkpoint.content u.checkpoint.content rest.holds.bears quiet one j v torn rest.holds.short;
        };
        history = copy_history sh log v put 0 v.checkpoint.content u.checkpoint.content rest.holds.bears quiet one j v (λ shown.
            (u.checkpoint.content, refl, inr (refl, raise.content)));
      }

  -- copy 1: the old view or the new one
  pub update_second : RestsOn sh log v → ((place : Place) → loose log place ≡ false)
      → PutsOne put (CopyPlace 1) (CopyUnit u.checkpoint.content) → IsStage (now log) v.checkpoint.content u.checkpoint.content 1
      → ((a : ℕ) (b : Block) → InChain a b u.checkpoint.chain → now log (BlockPlace a) ≡ Some (BlockUnit b))
      → IsClearIn (now log) u → (boot_of v < boot_of u) ⊎ IsClear (settled log) v → Stepped sh log put v u
  update_second rest dry one stage there clear rises = step sh log v put rest u
      (record { next = raise.next; clear = inr rises }) each (after (overlay put (now log)) (overlay_torn sh log v put) (shown_over 1 one))
    where
      quiet : IsQuiet log
      quiet place wet = absurd (cc (wet, dry place))

      staged : (j : Units) → Torn sh log v put j → IsStage j v.checkpoint.content u.checkpoint.content 1
      staged j torn = stage_torn sh log v put 1 v.checkpoint.content u.checkpoint.content rest.holds.bears quiet one j torn stage

      not_new : (j : Units) → ((x : AnyUnit) → j (CopyPlace 1) ≡ Some x → InImages (settled log) (CopyPlace 1) x
          × Agrees sh v (CopyPlace 1) x) → j (CopyPlace 1) ≡ Some (CopyUnit u.checkpoint.content) → ⊥
      not_new j old shown = let a = (old (CopyUnit u.checkpoint.content) shown).1 in
          let one_content : a.0 ≡ u.checkpoint.content = (let e = a.1 in cc) in let same = ap rank_of one_content in
          elim (a.2 (λ zero_is. omega arith)) [
            | inl base ↦ omega (arith, ap rank_of base, raise.higher)
            | inr less ↦ omega (arith, raise.higher)
          ]

      before : (j : Units) → Torn sh log v put j → ((x : AnyUnit)
          → j (CopyPlace 1) ≡ Some x → InImages (settled log) (CopyPlace 1) x × Agrees sh v (CopyPlace 1) x) → TornView sh log v put j v
      before j torn old = record {
        holds = record {
          bears = copy_rests
              sh log v put 1 v.checkpoint.content u.checkpoint.content rest.holds.bears quiet one j torn (λ x shown. (old x shown).1);
          chosen = chosen_not_yet j v.checkpoint.content u.checkpoint.content raise.higher (staged j torn) (not_new j old);
          short = copy_short sh log v put 1 v.checkpoint.content u.checkpoint.content rest.holds.bears quiet one j v torn rest.holds.short;
        };
        history = copy_history sh log v put 1 v.checkpoint.content u.checkpoint.content rest.holds.bears quiet one j v (λ shown.
            absurd (not_new j old shown));
      }

      now_rests : Bears sh (now log) u
      now_rests = checkpoint_rests sh (now log) v u rest.holds.bears raise there

      after : (j : Units) → Torn sh log v put j → j (CopyPlace 1) ≡ Some (CopyUnit u.checkpoint.content) → TornView sh log v put j u
      after j torn shown = let torn_u : Torn sh log u put j =
          λ place. torn_later sh log v u put j (next_grew sh v u rest.holds.bears.sound raise.next) raise.head_is dry place (torn place) in
          record {
            holds = record {
              bears = copy_rests sh log u put 1 v.checkpoint.content u.checkpoint.content now_rests quiet one j
                  torn_u (copy_here sh log u put 1 v.checkpoint.content u.checkpoint.content now_rests quiet one (agrees_later 1) j torn_u);
              chosen = chosen_second j v.checkpoint.content u.checkpoint.content raise.higher (staged j torn) shown;
              short = copy_short sh log
                  v put 1 v.checkpoint.content u.checkpoint.content rest.holds.bears quiet one j u torn (short_clear sh (now log) u clear);
            };
            history = copy_history sh log v put 1 v.checkpoint.content u.checkpoint.content rest.holds.bears quiet one j u (λ shown.
                (u.checkpoint.content, refl, inl refl));
          }

      each : (j : Units) → Torn sh log v put j → TornView sh log v put j v ⊎ TornView sh log v put j u
      each j torn = elim (copy_there
          sh log v put 1 v.checkpoint.content u.checkpoint.content rest.holds.bears quiet one j torn (j (CopyPlace 1)) refl) [
            | inl old ↦ inl (before j torn old)
            | inr yes_there ↦ inr (after j torn yes_there)
          ]

  -- copies 2 and 3: the new view stays
  pub update_later : (k : ℕ) → 1 < k → RestsOn sh log u → IsQuiet log → PutsOne put (CopyPlace k) (CopyUnit u.checkpoint.content)
      → IsStage (now log) v.checkpoint.content u.checkpoint.content k → Stepped sh log put u u
  update_later k above rest quiet one stage = step sh log u put rest u (goes_same (settled log) u) (λ j torn.
      inl (view j torn)) (view (overlay put (now log)) (overlay_torn sh log u put))
    where
      view : (j : Units) → Torn sh log u put j → TornView sh log u put j u
      view j torn = record {
        holds = record {
          bears = copy_rests sh log u put k v.checkpoint.content u.checkpoint.content rest.holds.bears quiet one j
              torn (copy_here sh log u put k v.checkpoint.content u.checkpoint.content rest.holds.bears quiet one (agrees_later k) j torn);
          chosen = chosen_last j v.checkpoint.content u.checkpoint.content raise.higher
              k above (stage_torn sh log u put k v.checkpoint.content u.checkpoint.content rest.holds.bears quiet one j torn stage);
          short = copy_short sh log u put k v.checkpoint.content u.checkpoint.content rest.holds.bears quiet one j u torn rest.holds.short;
        };
        history = copy_history sh log u put k v.checkpoint.content u.checkpoint.content rest.holds.bears quiet one j u (λ shown.
            (u.checkpoint.content, refl, inl refl));
      }

-- ---- mending a copy that isn't one of the chosen

module _ (sh : Shape) (log : UnitLog) (v : View) (put : Units) (k : ℕ) (rest : RestsOn sh log v) (quiet : IsQuiet log)
    (one : PutsOne put (CopyPlace k) (CopyUnit v.checkpoint.content)) (spare : AgreeBeside (now log) v.checkpoint.content k) where
  mend_copy : (j : Units) (n : ℕ) → Torn sh log v put j → (n ≡ k → ⊥) → j (CopyPlace n) ≡ now log (CopyPlace n)
  mend_copy j n torn away =
      other_copy sh log v put k v.checkpoint.content v.checkpoint.content rest.holds.bears quiet one j n away (torn (CopyPlace n))

  agrees_base : AgreesCopy v k v.checkpoint.content
  agrees_base differs = inl refl

  mend_rests : (j : Units) → Torn sh log v put j → Bears sh j v
  mend_rests j torn = copy_rests sh log v put k v.checkpoint.content v.checkpoint.content rest.holds.bears
      quiet one j torn (copy_here sh log v put k v.checkpoint.content v.checkpoint.content rest.holds.bears quiet one agrees_base j torn)

  copy_of : (j : Units) → Torn sh log v put j → (n : ℕ) (d : Content) → j (CopyPlace n) ≡ Some (CopyUnit d) → AgreesCopy v n d
  copy_of j torn n d shown = let a = (mend_rests j torn).agrees (CopyPlace n) (CopyUnit d) shown in
      let same : a.0 ≡ d = (let e = a.1 in cc) in subst (λ (c : Content). AgreesCopy v n c) same a.2

  -- of two copies that agree one isn't number 0
  mend_lower : (j : Units)
      → Torn sh log v put j → (d : Content) → Agree j d → (d ≡ v.checkpoint.content) ⊎ (rank_of d < rank_of v.checkpoint.content)
  mend_lower j torn d a = copy_of j torn a.second d a.at_second (λ zero_is. omega (arith, a.apart))

  mend_view : (j : Units) → Torn sh log v put j → TornView sh log v put j v
  mend_view j torn = record {
    holds = record {
      bears = mend_rests j torn;
      chosen = chosen_above j v.checkpoint.content
          (agree_at j v.checkpoint.content spare.agreed.first spare.agreed.second spare.agreed.apart spare.agreed.inside (mend_copy j spare.agreed.first torn spare.no_first ∙ spare.agreed.at_first) (mend_copy j spare.agreed.second torn spare.no_second ∙ spare.agreed.at_second))
          (mend_lower j torn);
      short = copy_short sh log v put k v.checkpoint.content v.checkpoint.content rest.holds.bears quiet one j v torn rest.holds.short;
    };
    history = copy_history sh log v put k v.checkpoint.content v.checkpoint.content rest.holds.bears quiet one j v (λ shown.
        (v.checkpoint.content, refl, inl refl));
  }

  pub mend_step : Stepped sh log put v v
  mend_step = step sh log v put rest v (goes_same (settled log) v) (λ j torn.
      inl (mend_view j torn)) (mend_view (overlay put (now log)) (overlay_torn sh log v put))
