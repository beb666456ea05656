-- The laws of the writers.
use Rattle.std.proofs.Common.{◌≡◌, ◌⊎◌, inl, inr, ℕ, ◌+◌, ◌-◌, ◌<◌, ◌%◌, ◌≤◌, List, [], ◌∷◌, ◌++◌, true, false, Option, Some, None, refl, sym, ◌∙◌, ap, subst, arith, length-drop}
use Rattle.df_theory.{specs.{CopyPuts.{PutsCopies}, Units.{AnyUnit, Block, BlockPlace, BlockUnit, Content, CopyPlace, CopyUnit, Header, HeaderPlace, HeaderUnit, Message, Place, PreparePlace, PrepareUnit, Units, or_else, overlay, IsReserved}, Tails.{In}, Shape.{Shape}, Copies.{Agree}, Trailer.{InChain}, View.{View, boot_of, head}, Holds.{Holds}, Next.{Boot, Finish, appended, booted, checkpointed, replied}, UnitLog.{PutsOne, Stopped, Synced, UnitLog, add, now, settled, wrote}, First.{AreMade}, Grown.{IsClear}, Rests.{IsCalm, IsCalmPut, IsDry, IsGoodLog, IsQuiet, RestsOn, MaySettle, Stepped}, WriterLaws.{AnewLaw, AppendLaw, BlockLaw, BootLaw, CalmLaw, CopyLaw, HeaderLaw, ReplyLaw, RestLaw, StopLaw, SyncLaw, UpdateLaw, Updates, WriteLaw}}, proofs.{Tails.{chain_ops, in_back, in_dropped}, Choices.{boot_higher, boot_next, finish_higher, finish_next}, OneFound.{one_view}, Steps.{grows_holds, old_agrees, synced_rests, rests_safe, rests_holds}, Puts.{calm_step, calm_stays, one_step}, Flushes.{prepare_step}, Replies.{reply_step}, Sounds.{reply_sound, checkpoint_sound}, Images.{IsClearIn}, Agreeing.{prepare_agrees}, BootSounds.{boot_sound}, Updates.{IsRaise, update_first, update_second, update_later, stage_next, mend_step}, CopyVotes.{IsStage}}}

pub rests_law : RestLaw
rests_law sh log v rests = (rests_safe sh log v rests, rests_holds sh log v rests)

-- in an image of a file that is still being made no two copies agree
pub no_choice : (c : Content) (image : Units) (images : List Units) → AreMade c (image ∷ images) → (d : Content) → Agree image d → ⊥
no_choice c image [] made d agreed = let both : Some (CopyUnit d) ≡ None = sym agreed.at_first ∙ made (CopyPlace agreed.first) in cc
no_choice c image (before ∷ images) made d agreed = made.1 d agreed

no_view : (sh : Shape) (c : Content) (image : Units) (images : List Units) (v : View) → AreMade c (image ∷ images) → Holds sh image v → ⊥
no_view sh c image images v made holds = no_choice c image images made v.checkpoint.content holds.chosen.agreed

pub sync_law : SyncLaw
sync_law sh log v was holds = elim was [
  | inl grown ↦
      let same : grown.0 ≡ v = one_view sh (now log) grown.0 v (grows_holds sh (now log) (settled log) grown.0 grown.1.grows) holds in
      rw same at (synced_rests sh log grown.0 grown.1)
  | inr made ↦ absurd (no_view sh made.0 (now log) (settled log) v made.1.made holds)
]

pub stop_law : StopLaw
stop_law sh log v image was holds = elim was [
  | inl grown ↦ let same : grown.0 ≡ v = one_view sh image grown.0 v (grows_holds sh image (settled log) grown.0 grown.1.grows) holds in
      rw (← same) (record {
        fair = grown.1.fair;
        grows = grown.1.grows;
        old = old_agrees sh (image ∷ settled log) grown.0 grown.1.grows;
        holds = grows_holds sh image (settled log) grown.0 grown.1.grows;
        calm = λ place is. absurd (let no_unit : false ≡ true = is in cc);
        pending = λ place x none. absurd none;
        pooled = λ place x is. inl (inl is);
      })
  | inr made ↦ absurd (no_view sh made.0 image (settled log) v made.1.made holds)
]

pub anew_law : AnewLaw
anew_law sh image v holds = record {
  fair = tt;
  grows = (holds, inl tt);
  old = old_agrees sh (image ∷ []) v (holds, inl tt);
  holds = holds;
  calm = λ place is. absurd (let no_unit : false ≡ true = is in cc);
  pending = λ place x none. absurd none;
  pooled = λ place x is. inl (inl is);
}

pub calm_law : CalmLaw
calm_law sh log v put rests calm = (calm_stays sh log v put rests calm, calm_step sh log v put rests calm)

pub good_rests : (sh : Shape) (log : UnitLog) (v u w : View) → RestsOn sh log w → (w ≡ v) ⊎ (w ≡ u) → IsGoodLog sh v u log
good_rests sh log v u w rests which = record {
  safe = rests_safe sh log w rests;
  left = λ j left chance. let holds = rests_holds sh log w rests j left chance in elim which [
    | inl is ↦ inl (rw is at holds)
    | inr is ↦ inr (rw is at holds)
  ];
}

-- of two views that are one
pub good_both : (sh : Shape) (log : UnitLog) (v u : View) → IsGoodLog sh u u log → IsGoodLog sh v u log
good_both sh log v u good =
    record { safe = good.safe; left = λ j left chance. elim (good.left j left chance) [ inl is ↦ inr is | inr is ↦ inr is ] }

pub good_first : (sh : Shape) (log : UnitLog) (v u : View) → IsGoodLog sh v v log → IsGoodLog sh v u log
good_first sh log v u good =
    record { safe = good.safe; left = λ j left chance. elim (good.left j left chance) [ inl is ↦ inl is | inr is ↦ inl is ] }

pub reply_law : ReplyLaw
reply_law sh log v put place r rests quiet may one = let sound = rests.holds.bears.sound in one_step sh log
    v (replied v place r) put _ _ rests quiet one (reply_step sh v place r sound (reply_sound sh v place r sound may.is may.waits) may.is)

block_calm : (sh : Shape) (log : UnitLog) (v : View) (put : Units) (a : ℕ) (b : Block)
    → ((c : Block) → InChain a c v.checkpoint.chain → ⊥) → PutsOne put (BlockPlace a) (BlockUnit b) → IsCalmPut sh (settled log) v put
block_calm sh log v put a c free one place y is = let at = (one.only place y is).0 in
    subst (λ (p : Place). IsCalm sh v p × MaySettle sh (settled log) v p y) (sym at) (
      record { no_copy = λ copy. copy; no_prepare = λ prepare. prepare; needless = λ x need. free need.0 need.1 },
      record { agrees = tt; history = inr tt },
    )

pub block_law : BlockLaw
block_law sh log v put a c rests free one = calm_law sh log v put rests (block_calm sh log v put a c free one)

pub dry_quiet : (log : UnitLog) → IsDry log → IsQuiet log
dry_quiet log dry place wet = absurd (cc (wet, dry place))

pub quiet_synced : (log : UnitLog) → IsQuiet (add Synced log)
quiet_synced log place wet = absurd (let no_unit : false ≡ true = wet in cc)

pub header_law : HeaderLaw
header_law sh log v put rests mend = calm_law sh log v put rests (λ place y is. let e = mend.each place y is in rw e.2
    (subst (λ (x : AnyUnit). IsCalm sh v (HeaderPlace e.0) × MaySettle sh (settled log) v (HeaderPlace e.0) x) (sym e.3)
    (record { no_copy = λ copy. copy; no_prepare = λ prepare. prepare; needless = λ x need. need }, may e.0 e.1 e.4)))
  where
    may : (s : ℕ) (h : Header) → (now log (HeaderPlace s) ≡ Some (HeaderUnit h)) ⊎ ((p : Message) × In p v.tail
        × (p.header ≡ h) × (s ≡ h.op % sh.layout.slots)) ⊎ IsReserved h → MaySettle sh (settled log) v (HeaderPlace s) (HeaderUnit h)
    may s h (inl shown) = record {
      agrees = rests.holds.bears.agrees (HeaderPlace s) (HeaderUnit h) shown;
      history = elim (rests.pooled (HeaderPlace s) (HeaderUnit h) shown) [
        | inl old ↦ inl old
        | inr pending ↦ (rests.pending (HeaderPlace s) (HeaderUnit h) pending).1.history
      ];
    }
    may s h (inr (inl of)) = record {
      agrees = let a = rests.holds.bears.agrees (PreparePlace (of.0.header.op % sh.layout.slots)) (PrepareUnit of.0)
          (rests.holds.bears.needs (PreparePlace (of.0.header.op % sh.layout.slots)) (PrepareUnit of.0) (of.0, of.1, refl, refl)) in
          let same : a.0.header ≡ h = (let e = a.1 in let whole : a.0 ≡ of.0 = cc in ap (λ (w : Message). w.header) whole ∙ of.2) in (
            h,
            refl,
            record {
              op = λ own. let ops = chain_ops sh.layout.clients (v.checkpoint.content.op + 1) v.checkpoint.content.op_checksum 0 v.checkpoint.parts.sessions v.tail of.0 rests.holds.bears.sound.chain of.1 in omega (arith, ops.1, ap (λ (x : Header). x.op) of.2);
              ring = rw (← same) a.2.ring;
              checkpoint = rw (← same) a.2.checkpoint;
              boot = rw (← same) a.2.boot;
              slot = λ above. of.3;
              in_tail = λ own above. (of.0, of.1, ap (λ (x : Header). x.op) of.2, ap (λ (x : Header). x.checksum) of.2);
            },
          );
      history = inr (h, refl, inr (of.0, of.1, of.2));
    }
    may s h (inr (inr reserved)) = record {
      agrees = (h, refl, record { op = λ own. omega (arith, reserved.op); ring = omega (arith, reserved.op); checkpoint = omega (arith, reserved.checkpoint); boot = omega (arith, reserved.boot); slot = λ above. absurd (omega (arith, reserved.op)); in_tail = λ own above. absurd (omega (arith, reserved.op)) });
      history = inr (h, refl, inl reserved.op);
    }

pub copy_law : CopyLaw
copy_law sh log v put k rests quiet one spare = mend_step sh log v put k rests quiet one spare

-- what a write of one unit leaves elsewhere
pub put_else : (put image : Units) (place other : Place) (x : AnyUnit)
    → PutsOne put place x → (other ≡ place → ⊥) → overlay put image other ≡ image other
put_else put image place other x one away = go (put other) refl
  where
    go : (o : Option AnyUnit) → put other ≡ o → overlay put image other ≡ image other
    go None none = ap (λ (o : Option AnyUnit). or_else o (image other)) none
    go (Some y) some = absurd (away (one.only other y some).0)

pub append_law : AppendLaw
append_law sh log v p prepare headers rests quiet clear may one sector = let u : View = appended v (p ∷ []) in
    let mid : UnitLog = add Synced (wrote prepare log) in record {
      before = good_rests sh log v v v rests (inl refl);
      prepare_loose = first.good;
      prepare_synced = good_rests sh mid u u u first.rests (inl refl);
      header_loose = good_rests sh (wrote headers mid) u u u second.0 (inl refl);
      leads = record {
        moments = (
          good_rests sh log v u v rests (inl refl),
          (
            first.good,
            (
              good_rests sh mid v u u first.rests (inr refl),
              (good_rests sh (wrote headers mid) v u u second.0 (inr refl), good_rests sh (add Synced (wrote headers mid)) v u u second.1.rests (inr refl)),
            ),
          ),
        );
        rests = second.1.rests;
      };
    }
  where
    first : Stepped sh log prepare v (appended v (p ∷ []))
    first = prepare_step sh log v prepare p rests quiet clear may one

    second : RestsOn sh (wrote headers (add Synced (wrote prepare log))) (appended v (p ∷ []))
        × Stepped sh (add Synced (wrote prepare log)) headers (appended v (p ∷ [])) (appended v (p ∷ []))
    second = header_law sh (add Synced (wrote prepare log)) (appended v (p ∷ [])) headers first.rests (record { each = mends })
      where
        mends : (place : Place) (y : AnyUnit) → headers place ≡ Some y → (s : ℕ) × (h : Header) × (place ≡ HeaderPlace s) × (y ≡ HeaderUnit h)
            × ((overlay prepare (now log) (HeaderPlace s) ≡ Some (HeaderUnit h))
            ⊎ ((q : Message) × In q (v.tail ++ p ∷ []) × (q.header ≡ h) × (s ≡ h.op % sh.layout.slots)) ⊎ IsReserved h)
        mends place y is = let e = sector.each place y is in (
          e.0,
          e.1,
          e.2,
          e.3,
          elim e.4 [
            | inl shown ↦ inl (put_else prepare
                (now log) (PreparePlace (p.header.op % sh.layout.slots)) (HeaderPlace e.0) (PrepareUnit p) one (λ same. cc (same)) ∙ shown)
            | inr new ↦ inr
                (inl (p, in_back p v.tail (p ∷ []) (inl refl), sym new.1, new.0 ∙ ap (λ (h : Header). h.op % sh.layout.slots) (sym new.1)))
          ],
        )

-- where nothing of the boot survived in what was settled, nothing is shown
pub clear_in : (sh : Shape) (log : UnitLog) (v : View) → RestsOn sh log v → IsQuiet log → IsClear (settled log) v → IsClearIn (now log) v
clear_in sh log v rests quiet clear s p is own = elim (rests.pooled (PreparePlace s) (PrepareUnit p) is) [
  | inl old ↦ clear s p old own
  | inr pending ↦ absurd (quiet (PreparePlace s) (rests.pending (PreparePlace s) (PrepareUnit p) pending).0)
]

-- four copies of the next content, one after the other
raise_law : (sh : Shape) (log : UnitLog) (v u : View) (puts : PutsCopies u.checkpoint.content)
    → RestsOn sh log v → IsDry log → IsRaise sh v u → IsClearIn (now log) u → (boot_of v < boot_of u) ⊎ IsClear (settled log) v
    → ((n : ℕ) → n < 4 → now log (CopyPlace n) ≡ Some (CopyUnit v.checkpoint.content))
    → ((a : ℕ) (b : Block) → InChain a b u.checkpoint.chain → now log (BlockPlace a) ≡ Some (BlockUnit b)) → Updates sh log v u puts
raise_law sh log v u puts rests dry raise clear rises copies held = let quiet : IsQuiet log = dry_quiet log dry in
    let log1 : UnitLog = add Synced (wrote puts.put0 log) in let log2 : UnitLog = add Synced (wrote puts.put1 log1) in
    let log3 : UnitLog = add Synced (wrote puts.put2 log2) in let log4 : UnitLog = add Synced (wrote puts.put3 log3) in
    let quiet1 : IsQuiet log1 = quiet_synced (wrote puts.put0 log) in
    let stage0 : IsStage (now log) v.checkpoint.content u.checkpoint.content 0 =
    record { low = λ n less. absurd (omega arith); high = λ n more below. copies n below } in
    let first : Stepped sh log puts.put0 v v = update_first sh log v u puts.put0 raise rests quiet puts.one0 stage0 in
    let stage1 : IsStage (now log1) v.checkpoint.content u.checkpoint.content 1 =
    stage_next sh log v u puts.put0 raise 0 v rests quiet puts.one0 stage0 in
    let there : (a : ℕ) (b : Block) → InChain a b u.checkpoint.chain → now log1 (BlockPlace a) ≡ Some (BlockUnit b) = λ a b at.
    put_else puts.put0 (now log) (CopyPlace 0) (BlockPlace a) (CopyUnit u.checkpoint.content) puts.one0 (λ same. cc (same)) ∙ held a b at in
    let clear1 : IsClearIn (now log1) u = λ s p is own. clear s p (sym (put_else
    puts.put0 (now log) (CopyPlace 0) (PreparePlace s) (CopyUnit u.checkpoint.content) puts.one0 (λ same. cc (same))) ∙ is) own in
    let rises1 : (boot_of v < boot_of u) ⊎ IsClear (settled log1) v = elim rises [
      | inl more ↦ inl more
      | inr old ↦ inr (λ s p at own. elim at [
        | inl here ↦ clear_in sh log v rests quiet old s p (sym (put_else
            puts.put0 (now log) (CopyPlace 0) (PreparePlace s) (CopyUnit u.checkpoint.content) puts.one0 (λ same. cc (same))) ∙ here) own
        | inr before ↦ old s p before own
      ])
    ] in let second : Stepped sh log1 puts.put1 v u =
    update_second sh log1 v u puts.put1 raise first.rests (λ place. refl) puts.one1 stage1 there clear1 rises1 in
    let stage2 : IsStage (now log2) v.checkpoint.content u.checkpoint.content 2 =
    stage_next sh log1 v u puts.put1 raise 1 v first.rests quiet1 puts.one1 stage1 in let third : Stepped sh log2 puts.put2 u u =
    update_later sh log2 v u puts.put2 raise 2 (omega arith) second.rests (quiet_synced (wrote puts.put1 log1)) puts.one2 stage2 in
    let stage3 : IsStage (now log3) v.checkpoint.content u.checkpoint.content 3 =
    stage_next sh log2 v u puts.put2 raise 2 u second.rests (quiet_synced (wrote puts.put1 log1)) puts.one2 stage2 in
    let fourth : Stepped sh log3 puts.put3 u u =
    update_later sh log3 v u puts.put3 raise 3 (omega arith) third.rests (quiet_synced (wrote puts.put2 log2)) puts.one3 stage3 in record {
      first = first;
      second = second;
      third = third;
      fourth = fourth;
      leads = record {
        moments = (
          good_rests sh log v u v rests (inl refl),
          (
            good_first sh (wrote puts.put0 log) v u first.good,
            (
              good_rests sh log1 v u v first.rests (inl refl),
              (
                second.good,
                (
                  good_rests sh log2 v u u second.rests (inr refl),
                  (
                    good_both sh (wrote puts.put2 log2) v u third.good,
                    (good_rests sh log3 v u u third.rests (inr refl), (good_both sh (wrote puts.put3 log3) v u fourth.good, good_rests sh log4 v u u fourth.rests (inr refl))),
                  ),
                ),
              ),
            ),
          ),
        );
        rests = fourth.rests;
      };
    }

pub update_law : UpdateLaw
update_law sh log v c puts rests dry clear may copies held = raise_law sh log v (checkpointed v c) puts rests dry (record {
  next = Finish c may.is;
  content = finish_next v c may.is;
  higher = finish_higher v c may.is;
  sound = checkpoint_sound sh v c rests.holds.bears.sound may;
  head_is = head_is;
  tail = λ p at. in_dropped (c.content.op - v.checkpoint.content.op) p v.tail at;
  stored = λ k. refl;
}) clear_now (inr clear) copies held
  where
    head_is : head (checkpointed v c) ≡ head v
    head_is = omega (arith, length-drop (c.content.op - v.checkpoint.content.op) v.tail, may.is.op_from, may.is.op_to)

    clear_now : IsClearIn (now log) (checkpointed v c)
    clear_now s p is own = omega (arith, clear_in sh log v rests (dry_quiet log dry) clear s p is (own ∙ may.is.boot), head_is)

pub boot_law : BootLaw
boot_law sh log v d puts rests dry may copies = (
  raise_law sh log v (booted v d) puts rests dry (record {
    next = Boot d may.is;
    content = boot_next v d may.is;
    higher = boot_higher v d may.is;
    sound = boot_sound sh v d rests.holds.bears.sound may;
    head_is = omega (arith, may.is.same.op.0);
    tail = λ p at. at;
    stored = λ k. refl;
  }) (λ s p is own. absurd (omega (arith, (prepare_agrees sh (now log) v rests.holds.bears.sound rests.holds.bears.agrees s p is).boot, may.is.boot))) (inl (omega (arith, may.is.boot))) copies (λ a b at. rests.holds.bears.needs (BlockPlace a) (BlockUnit b) (b, at, refl)),
  record { content = may.is.same; chain = refl; parts = refl; tail = refl; replies = refl; stored = λ k. refl },
)

pub write_law : WriteLaw
write_law sh log put v u rests stepped = record {
  moments =
      (good_rests sh log v u v rests (inl refl), (stepped.good, good_rests sh (add Synced (wrote put log)) v u u stepped.rests (inr refl)));
  rests = stepped.rests;
}
