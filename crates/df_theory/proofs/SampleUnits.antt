-- Logs of the units of a sample: one checksum, one unit; and what was written is pooled.
use Rattle.std.proofs.Common.{◌≡◌, inl, inr, ℕ, true, false, Option, Some, None, refl, sym, ◌∙◌, ap, subst}
use Rattle.df_theory.{specs.{Units.{AnyUnit, Block, BlockPlace, BlockUnit, Content, CopyPlace, CopyUnit, Header, HeaderPlace, HeaderUnit, Message, Place, PreparePlace, PrepareUnit, ReplyPlace, ReplyUnit, Units, or_else}, UnitLog.{IsLeftBy, Synced, UnitLog, add, loose, now, put_one, wrote}, Chance.{Distinct, InPool, NoChance}, Runs.{after_steps}, CopyPuts.{update_steps}, MakingLaws.{blank_log}}, proofs.{PutOne.{put_one_law}, AllOf.{All, Shows, all_wrote, pools_all}, Without.{without, without_else}, SampleFiles.{all_reserved, copies_of, made_of, reserved}}}

-- ---- writes of such units

module _ (P : AnyUnit → Type 0) where
  pub one_shows : (place : Place) (x : AnyUnit) → P x → Shows P (put_one place x)
  one_shows place x own other y is = subst P (sym ((put_one_law place x).only other y is).1) own

  pub put_all : (place : Place) (x : AnyUnit) (log : UnitLog)
      → P x → All P log.start log.events → All P log.start (wrote (put_one place x) log).events
  put_all place x log own all = all_wrote P (put_one place x) log (one_shows place x own) all

  -- four copies of a content
  pub copies_all : (c : Content) → P (CopyUnit c)
      → (log : UnitLog) → All P log.start log.events → All P log.start (after_steps (update_steps (copies_of c)) log).events
  copies_all c own log all = let l1 : UnitLog = add Synced (wrote (put_one (CopyPlace 0) (CopyUnit c)) log) in
      let l2 : UnitLog = add Synced (wrote (put_one (CopyPlace 1) (CopyUnit c)) l1) in
      let l3 : UnitLog = add Synced (wrote (put_one (CopyPlace 2) (CopyUnit c)) l2) in put_all (CopyPlace 3) (CopyUnit c) l3 own (put_all
      (CopyPlace 2) (CopyUnit c) l2 own (put_all (CopyPlace 1) (CopyUnit c) l1 own (put_all (CopyPlace 0) (CopyUnit c) log own all)))

  reserved_shows : P (HeaderUnit reserved) → Shows P all_reserved
  reserved_shows own (HeaderPlace s) y is =
      subst P (let both : Some (HeaderUnit reserved) ≡ Some y = is in let one : HeaderUnit reserved ≡ y = cc in one) own
  reserved_shows own (CopyPlace n) y is = absurd (let both : None ≡ Some y = is in cc)
  reserved_shows own (PreparePlace s) y is = absurd (let both : None ≡ Some y = is in cc)
  reserved_shows own (ReplyPlace k) y is = absurd (let both : None ≡ Some y = is in cc)
  reserved_shows own (BlockPlace a) y is = absurd (let both : None ≡ Some y = is in cc)

  -- a file as it is made
  pub made_all : (c : Content) → P (CopyUnit c) → P (HeaderUnit reserved) → All P (made_of c).start (made_of c).events
  made_all c own own_reserved = copies_all c own (add Synced (wrote all_reserved blank_log))
      (all_wrote P all_reserved blank_log (reserved_shows own_reserved) (λ place x is. absurd (let both : None ≡ Some x = is in cc)))

-- ---- one checksum, one unit

-- units that their checksums tell
pub record AreTold (P : AnyUnit → Type 0) : Type 0 where
  pub contents : ℕ → Content
  pub headers : ℕ → Header
  pub prepares : ℕ → Message
  pub replies : ℕ → Message
  pub blocks : ℕ → Block
  pub content : (c : Content) → P (CopyUnit c) → c ≡ contents c.checksum
  pub header : (h : Header) → P (HeaderUnit h) → h ≡ headers h.checksum
  pub prepare : (p : Message) → P (PrepareUnit p) → (p ≡ prepares p.header.checksum) × (p.header ≡ headers p.header.checksum)
  pub reply : (r : Message) → P (ReplyUnit r) → r ≡ replies r.header.checksum
  pub block : (b : Block) → P (BlockUnit b) → b ≡ blocks b.checksum

pub distinct_of : (P : AnyUnit → Type 0) → AreTold P → (x y : AnyUnit) → P x → P y → Distinct x y
distinct_of P told (CopyUnit c) (CopyUnit d) one two = λ same. told.content c one ∙ ap told.contents same ∙ sym (told.content d two)
distinct_of P told (HeaderUnit h) (HeaderUnit g) one two = λ same. told.header h one ∙ ap told.headers same ∙ sym (told.header g two)
distinct_of P told (HeaderUnit h) (PrepareUnit q) one two = λ same. told.header h one ∙ ap told.headers same ∙ sym (told.prepare q two).1
distinct_of P told (PrepareUnit p) (PrepareUnit q) one two = λ same. (told.prepare p one).0 ∙ ap told.prepares same ∙ sym (told.prepare q two).0
distinct_of P told (ReplyUnit r) (ReplyUnit q) one two = λ same. told.reply r one ∙ ap told.replies same ∙ sym (told.reply q two)
distinct_of P told (BlockUnit b) (BlockUnit c) one two = λ same. told.block b one ∙ ap told.blocks same ∙ sym (told.block c two)
distinct_of P told x y one two = tt

-- no chance in an image of what was pooled in a log of such units
pub no_chance :
    (P : AnyUnit → Type 0) → ((x y : AnyUnit) → P x → P y → Distinct x y) → (log : UnitLog)
    → All P log.start log.events → (image : Units) → ((place : Place) (x : AnyUnit) → image place ≡ Some x → InPool log place x)
    → NoChance log image
no_chance P distinct log all image pooled = record {
  pooled = pooled;
  distinct = λ place other x y one two.
      distinct x y (pools_all P log.start log.events all place x one) (pools_all P log.start log.events all other y two);
}

-- ---- what a write leaves

-- what is shown after a write was pooled, or is pooled by it
pub wrote_pooled :
    (put : Units) (log : UnitLog) → ((place : Place) (x : AnyUnit) → now log place ≡ Some x → InPool log place x)
    → (place : Place) (x : AnyUnit) → now (wrote put log) place ≡ Some x → InPool (wrote put log) place x
wrote_pooled put log old place x is = go (put place) refl
  where
    go : (o : Option AnyUnit) → put place ≡ o → InPool (wrote put log) place x
    go None none = elim (old place
        x (ap (λ (o : Option AnyUnit). or_else o (now log place)) (sym none) ∙ is)) [ inl older ↦ inl older | inr newer ↦ inr (inr newer) ]
    go (Some y) some = inr (inl (some ∙ ap (λ (o : Option AnyUnit). or_else o (now log place)) (sym some) ∙ is))

-- a stop may tear a place that is loose
pub left_without : (place : Place) (log : UnitLog) → loose log place ≡ true → IsLeftBy log (without place (now log))
left_without place log wet other firm =
    without_else place other (now log) (λ same. let both : true ≡ false = sym wet ∙ sym (ap (λ (p : Place). loose log p) same) ∙ firm in cc)
