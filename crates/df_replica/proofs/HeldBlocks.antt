-- A block stays where it is as long as its address is held: no command puts another one there.
use Rattle.std.{proofs.{Common.{◌≡◌, ◌⊎◌, inl, inr, ℕ, ◌<◌, ◌==◌, Bool, true, false, if◌then◌else◌, List, [], ◌∷◌, Option, Some, None, refl, sym, ap, subst, ◌∙◌, arith, eqb-true, eq-eqb}, lemmas.Bool.{or_left, or_right}, lemmas.Option.{same_Some}}, specs.Prelude.{Ok}}
use Rattle.{df_base.proofs.Laws.{not_zero}, df_disk.specs.{Told.{Told}, Adds.{after_all}}, df_units.proofs.Laws.{is_format}}
use Rattle.{df_layout.specs.declared.damage.Class.{Class, TheVariants.{Stale}}, df_opening.specs.Below.{DataFile, State, shape, spelling}}
use Rattle.df_theory.{specs.{Units.{Block, BlockPlace, BlockUnit, Message}, Device.{units_log}, UnitLog.{now}}, proofs.Laws.{shown_law}}
use Rattle.df_model.{specs.{After.{begun, finished, with_group, with_live, with_reply, with_running, with_staged, with_trailer_block, with_verdict}, Change.{Appends, Begins, Change, Checks, Ends, LetsGo, Lives, Replies, Stages, Stays, TourEnds, Writes}, Codec.{InGrid}, Commands.{Command, Given, supplied_sum, supplied_verdict}, Making.{next_address}, Memory.{memory_of}, Refusals.{block_refusals, first_refusal}, Sense.{IsBacked, IsKnown, IsWork, ShowsOwnBlock}, Sense.IsKnown.{Captured, Durable, Live}, Supply.{block_given, class_at, given_if, no_trailer}, Work.{Request, Running, Work, first_tour, is_captured, is_held, is_known}, declared.answers.Verdict.{Verdict}, declared.answers.Verdict.TheVariants.{Sound, Failing}}, proofs.Laws.{block_may_law, entry_at, one_thing_law, sense_law}}
use Rattle.df_replica.{specs.{HeldBlocks.{AreInputs, HeldBlocksAreShown, HoldsBlock, IsCaptured, IsDurable, IsLive, ShowsHeld, StaysHeld}, Reading.{shown_of}, Serving.{IsKept, Keeps, Whole, format, next}, Session.{Act, acts_in, work_after}}, proofs.Sessions.{keeps_alone}}

-- ---- no command puts another block at a held address

module _ (file : DataFile) (w : Work) (a : ℕ) where
  -- what is held after a command was held before it, or the address was free
  abbrev Before : ℕ → Type 0
  Before d = HoldsBlock w a d ⊎ (is_held w a ≡ false)

  after_group : (ps : List Message) (d : ℕ) → HoldsBlock (with_group w ps) a d → Before d
  after_group ps d (IsLive is) = inl (IsLive is)
  after_group ps d (IsCaptured r runs is) = inl (IsCaptured r runs is)
  after_group ps d (IsDurable is) = inl (IsDurable is)

  after_stored : (place : ℕ) (r : Message) (d : ℕ) → HoldsBlock (with_reply w place r) a d → Before d
  after_stored place r d (IsLive is) = inl (IsLive is)
  after_stored place r d (IsCaptured run runs is) = inl (IsCaptured run runs is)
  after_stored place r d (IsDurable is) = inl (IsDurable is)

  live_case : (sum : Option ℕ) (d : ℕ) (b : Bool) → (if b then sum else w.live a) ≡ Some d → (b ≡ true → sum ≡ Some d → Before d) → Before d
  live_case sum d true is new = new refl is
  live_case sum d false is new = inl (IsLive is)

  after_write : (kind : ℕ) (body : List ℕ) (sum d : ℕ)
      → first_refusal (block_refusals (memory_of (shape file) (spelling file) w) kind body) ≡ None
      → HoldsBlock (with_live w (next_address (memory_of (shape file) (spelling file) w)) (Some sum)) a d → Before d
  after_write kind body sum d none (IsLive is) = let at = next_address (memory_of (shape file) (spelling file) w) in
      live_case (Some sum) d (a == at) is (λ same new. inr (subst (λ (k : ℕ).
      is_held w k ≡ false) (sym (eqb-true a at same)) (block_may_law (shape file) (spelling file) w kind body none).free))
  after_write kind body sum d none (IsCaptured r runs is) = inl (IsCaptured r runs is)
  after_write kind body sum d none (IsDurable is) = inl (IsDurable is)

  after_let_go : (address d : ℕ) → HoldsBlock (with_live w address None) a d → Before d
  after_let_go address d (IsLive is) = live_case None d (a == address) is (λ same none. absurd (cc))
  after_let_go address d (IsCaptured r runs is) = inl (IsCaptured r runs is)
  after_let_go address d (IsDurable is) = inl (IsDurable is)

  after_begun : (root : List ℕ) (d : ℕ)
      → InGrid (shape file).layout a → HoldsBlock (with_running w (Some (begun (shape file) (spelling file) w root))) a d → Before d
  after_begun root d inside (IsLive is) = inl (IsLive is)
  after_begun root d inside (IsCaptured r runs is) = let captured = ap (λ (x : Running). x.parts.references a) (same_Some _ _ runs) ∙ is in
      inl (IsLive (sym (entry_at w.live 1 (shape file).layout.blocks a (omega (arith, inside.0)) (omega (arith, inside.1))) ∙ captured))
  after_begun root d inside (IsDurable is) = inl (IsDurable is)

  after_finish : (r : Running) (sum d : ℕ) → w.running ≡ Some r → HoldsBlock (finished (shape file) (spelling file) w r sum) a d → Before d
  after_finish r sum d runs (IsLive is) = inl (IsLive is)
  after_finish r sum d runs (IsCaptured other none is) = absurd (let no : None ≡ Some other = none in cc)
  after_finish r sum d runs (IsDurable is) = inl (IsCaptured r runs is)

  after_trailer : (r : Running) (at d : ℕ) (b : Block) (more : List ℕ)
      → w.running ≡ Some r → HoldsBlock (with_trailer_block w r at b more) a d → Before d
  after_trailer r at d b more runs (IsLive is) = inl (IsLive is)
  after_trailer r at d b more runs (IsCaptured other on is) =
      inl (IsCaptured r runs (ap (λ (x : Running). x.parts.references a) (same_Some _ _ on) ∙ is))
  after_trailer r at d b more runs (IsDurable is) = inl (IsDurable is)

  after_check : (at : ℕ) (verdict : Verdict) (d : ℕ) → HoldsBlock (with_verdict w at verdict) a d → Before d
  after_check at Sound d (IsLive is) = inl (IsLive is)
  after_check at Sound d (IsCaptured r runs is) = inl (IsCaptured r runs is)
  after_check at Sound d (IsDurable is) = inl (IsDurable is)
  after_check at (Failing class) d (IsLive is) = inl (IsLive is)
  after_check at (Failing class) d (IsCaptured r runs is) = inl (IsCaptured r runs is)
  after_check at (Failing class) d (IsDurable is) = inl (IsDurable is)

  after_stage : (r : Request) (d : ℕ) → HoldsBlock (with_staged w r) a d → Before d
  after_stage r d (IsLive is) = inl (IsLive is)
  after_stage r d (IsCaptured run runs is) = inl (IsCaptured run runs is)
  after_stage r d (IsDurable is) = inl (IsDurable is)

  after_tour : (d : ℕ) → HoldsBlock (record w { tour = first_tour }) a d → Before d
  after_tour d (IsLive is) = inl (IsLive is)
  after_tour d (IsCaptured r runs is) = inl (IsCaptured r runs is)
  after_tour d (IsDurable is) = inl (IsDurable is)

  after_change : (given : Given) (command : Command) (u : Work) (d : ℕ)
      → InGrid (shape file).layout a → Change (shape file) (spelling file) w given command u → HoldsBlock u a d → Before d
  after_change given command u d inside (Stays _ idle) holds = inl holds
  after_change given command u d inside (Appends _ ps group) holds = after_group ps d holds
  after_change given command u d inside (Stages client request body none) holds = after_stage _ d holds
  after_change given command u d inside (Replies op body none) holds = after_stored _ _ d holds
  after_change given command u d inside (Lives kind body none) holds = after_write kind body (supplied_sum given) d none holds
  after_change given command u d inside (LetsGo address none) holds = after_let_go address d holds
  after_change given command u d inside (Begins root none) holds = after_begun root d inside holds
  after_change given command u d inside (Writes r at more runs left) holds = after_trailer r at d _ more runs holds
  after_change given command u d inside (Ends r runs left) holds = after_finish r (supplied_sum given) d runs holds
  after_change given command u d inside (Checks x more is) holds = after_check x.0 (supplied_verdict given) d holds
  after_change given command u d inside (TourEnds is) holds = after_tour d holds

  held_before : (given : Given) (command : Command) (d : ℕ)
      → InGrid (shape file).layout a → HoldsBlock (next file w given command).0 a d → Before d
  held_before given command d inside holds =
      after_change given command (next file w given command).0 d inside (one_thing_law (shape file) (spelling file) w given command) holds

-- ---- one checksum an address

is_there : (w : Work) (a c : ℕ) → HoldsBlock w a c → is_held w a ≡ true
is_there w a c (IsLive is) = or_left (is_known (w.live a)) _ (ap is_known is)
is_there w a c (IsCaptured r runs is) = or_right (is_known (w.live a))
    _ (or_left (is_captured a w.running) _ (ap (is_captured a) runs ∙ or_left (is_known (r.parts.references a)) _ (ap is_known is)))
is_there w a c (IsDurable is) = or_right (is_known (w.live a))
    _ (or_right (is_captured a w.running) _ (or_left (is_known (w.view.checkpoint.parts.references a)) _ (ap is_known is)))

is_one : (w : Work) (a c : ℕ) → HoldsBlock w a c → IsKnown w a c
is_one w a c (IsLive is) = Live is
is_one w a c (IsCaptured r runs is) = Captured r runs is
is_one w a c (IsDurable is) = Durable is

module _ (file : DataFile) (w : Work) (work : IsWork (shape file) (spelling file) w) (a c : ℕ) (holds : HoldsBlock w a c) where
  same_from : (d : ℕ) → HoldsBlock w a d ⊎ (is_held w a ≡ false) → c ≡ d
  same_from d (inl other) = work.one a c d (is_one w a c holds) (is_one w a d other)
  same_from d (inr free) = absurd (let no : true ≡ false = sym (is_there w a c holds) ∙ free in cc)

  -- the block that is held after a command is the same
  one_further : (given : Given) (command : Command) (d : ℕ)
      → HoldsBlock (next file w given command).0 a d → HoldsBlock (next file w given command).0 a c
  one_further given command d later = let inside = work.grid a (is_there w a c holds) in
      subst (HoldsBlock (next file w given command).0 a) (sym (same_from d (held_before file w a given command d inside later))) later

stays_held : (file : DataFile) (acts : List Act) (w : Work) (a c : ℕ) → IsWork (shape file) (spelling file) w
    → AreInputs acts → HoldsBlock w a c → StaysHeld file a w acts → HoldsBlock (work_after file w acts) a c
stays_held file [] w a c work inputs holds stays = holds
stays_held file (x ∷ acts) w a c work inputs holds stays =
    stays_held file acts (next file w x.given x.command).0 a c (sense_law (shape file) (spelling file) w x.given x.command inputs.0 work)
    inputs.1 (one_further file w work a c holds x.given x.command stays.0.0 stays.0.1) stays.1

-- ---- and it is shown

backed_shows : (file : DataFile) (t : Told) (w : Work) (a c : ℕ)
    → IsBacked (units_log (format file) t.log) w → HoldsBlock w a c → ShowsOwnBlock (now (units_log (format file) t.log)) a c
backed_shows file t w a c backed (IsLive is) = backed.live a c is
backed_shows file t w a c backed (IsCaptured r runs is) = backed.captured r runs a c is
backed_shows file t w a c backed (IsDurable is) = backed.standing.shown a c is

read_gives : (class : Class) (b : Block) → 0 < b.kind → no_trailer (block_given (Some b.checksum) (Some (BlockUnit b)) class) ≡ Ok b
read_gives class b some = ap (λ (e : Bool). no_trailer (given_if e b class)) (eq-eqb b.checksum b.checksum refl)
    ∙ ap (λ (e : Bool). given_if e b Stale) (not_zero b.kind some)

shows_held : (file : DataFile) (t : Told) (a c : ℕ) → ShowsOwnBlock (now (units_log (format file) t.log)) a c → ShowsHeld file a c (Some t)
shows_held file t a c own honest = let b = own.0 in let there : (format file).unit_at t.shown (BlockPlace a) ≡ Some (BlockUnit b) =
    shown_law (format file) t.log t.shown (is_format file.layout file.cluster) honest.shows (BlockPlace a) ∙ own.1 in
    let shown = shown_of file t.shown in (
      b,
      own.2,
      own.3,
      there,
      (λ i. no_trailer (block_given (Some (sym own.2 i)) (there i) (class_at shown (BlockPlace a))))
          ∙ read_gives (class_at shown (BlockPlace a)) b own.3,
    )

kept_shows : (s : State) (w : Work) (told : Option Told) (a c : ℕ) → Keeps Whole s w told → HoldsBlock w a c → ShowsHeld s.file a c told
kept_shows s w None a c k holds = tt
kept_shows s w (Some t) a c k holds = let is : IsKept Whole s w t.log = k in
    shows_held s.file t a c (backed_shows s.file t w a c is.kept_by.1 holds)

pub held_blocks_are_shown : HeldBlocksAreShown
held_blocks_are_shown s0 s told0 told xs events served inputs w base k a c holds stays = let acts = acts_in xs in
    let work = (keeps_alone Whole s0 w base k).0 in let last = stays_held s0.file acts w a c work inputs holds stays in
    (last, subst (λ (file : DataFile). ShowsHeld file a c (after_all events base)) served.file (kept_shows s (work_after s0.file w acts) (after_all events base) a c (served.kept_on Whole w base k).1 last))
