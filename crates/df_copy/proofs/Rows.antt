-- Units that are written one after the other: each is put into its place, and then each place shows its own.
use Rattle.std.{proofs.{Common.{◌≡◌, ℕ, zero, suc, ◌+◌, List, [], ◌∷◌, ◌++◌, length, map, Some, refl, sym, ◌∙◌, ap, subst, arith}, lemmas.Option.{same_Some}}, specs.Prelude.{slice_get}}
use Rattle.{df_base.specs.Log.{Event}, df_grid.specs.Writes.{block_steps, made_events}}
use Rattle.df_layout.specs.{declared.layout.Layout.{Layout}, declared.places.Zone.{Zone}, declared.places.Zone.TheVariants.{ClientReplies, Grid}}
use Rattle.df_format.{specs.{Message.{Message, sectors_of}, Own.{place_in}, Valid.{IsUnit}}, proofs.Laws.{made_brings}}
use Rattle.df_theory.{specs.{Device.{AreSteps}, Runs.{Puts, Step}, UnitLog.{put_one}, Units.{AnyUnit, BlockPlace, BlockUnit, Place, ReplyPlace, ReplyUnit}}, proofs.Laws.{steps_join_law}}
use Rattle.df_units.{specs.{Format.{format_of}, Meaning.{block_of, message_of}}, proofs.Laws.{block_put, reply_put}}
use Rattle.df_copy.{specs.{Targets.{all_steps, last_message, reply_steps}, Units.{all_events, reply_events}}, proofs.Afters.{placed}}

-- ---- units of a zone

-- units, each valid at the place of the zone that it names, which are one after the other from this one on
abbrev pub AreRow : Zone → (Message → ℕ) → Layout → (cluster from : ℕ) → List Message → Type 0
AreRow zone named layout cluster from [] = Unit {0}
AreRow zone named layout cluster from (u ∷ us) =
    (named u ≡ from) × IsUnit layout cluster (place_in zone from) u × AreRow zone named layout cluster (from + 1) us

-- which units they are, what is written of one and what that puts
pub record Row (layout : Layout) (cluster : ℕ) : Type 0 where
  pub zone : Zone
  pub named : Message → ℕ
  pub events : Message → List Event
  pub steps : Message → List Step
  pub place : ℕ → Place
  pub theirs : Message → AnyUnit
  pub are_steps : (u : Message) → IsUnit layout cluster (place_in zone (named u)) u → AreSteps (format_of layout cluster) (events u) (steps u)
  pub are_puts : (u : Message) → steps u ≡ Puts (put_one (place (named u)) (theirs u)) ∷ []

module _ {layout : Layout} {cluster : ℕ} (row : Row layout cluster) where
  abbrev Are : ℕ → List Message → Type 0
  Are from us = AreRow row.zone row.named layout cluster from us

  -- each of them is one at its own place
  pub row_at : (from i k : ℕ) (us : List Message) (u : Message)
      → Are from us → slice_get us i ≡ Some u → k ≡ from + i → (row.named u ≡ k) × IsUnit layout cluster (place_in row.zone k) u
  row_at from i k [] u are at is = absurd (cc)
  row_at from zero k (v ∷ us) u are at is = let here : from ≡ k = omega (arith, is) in subst (λ (w : Message).
      (row.named w ≡ k) × IsUnit layout cluster (place_in row.zone k) w) (same_Some v u at) (are.0 ∙ here, rw here at are.1)
  row_at from (suc i) k (v ∷ us) u are at is = row_at (from + 1) i k us u are.2 at (omega (arith, is))

  -- the last of them
  pub row_last : (from : ℕ) (u : Message) (us : List Message) → Are from (u ∷ us) → (v : Message)
      × (last_message (u ∷ us) ≡ Some v) × (row.named v ≡ from + length us) × IsUnit layout cluster (place_in row.zone (from + length us)) v
  row_last from u [] are = let plain : from ≡ from + 0 = omega arith in (u, refl, are.0 ∙ plain, rw plain at are.1)
  row_last from u (v ∷ us) are = let rest = row_last (from + 1) v us are.2 in
      let on : from + 1 + length us ≡ from + suc (length us) = omega arith in (rest.0, rest.1, rest.2 ∙ on, rw on at rest.3)

  -- they are written by steps
  pub row_steps : (from : ℕ) (us : List Message)
      → Are from us → AreSteps (format_of layout cluster) (all_events row.events us) (all_steps row.steps us)
  row_steps from [] are = tt
  row_steps from (u ∷ us) are = let own : IsUnit layout cluster (place_in row.zone (row.named u)) u = rw (sym are.0) at are.1 in
      steps_join_law (format_of layout cluster)
      (row.events u) (all_events row.events us) (row.steps u) (all_steps row.steps us) (row.are_steps u own) (row_steps (from + 1) us are.2)

  -- which put them to places that are counted
  pub row_placed : (from : ℕ) (us : List Message) → Are from us → all_steps row.steps us ≡ placed row.place from (map row.theirs us)
  row_placed from [] are = refl
  row_placed from (u ∷ us) are = ap (λ (l : List Step). l ++ all_steps row.steps us) (row.are_puts u)
      ∙ ap (λ (k : ℕ). Puts (put_one (row.place k) (row.theirs u)) ∷ all_steps row.steps us) are.0
      ∙ ap (λ (l : List Step). Puts (put_one (row.place from) (row.theirs u)) ∷ l) (row_placed (from + 1) us are.2)

-- ---- blocks and replies, in the words of the theory

abbrev pub as_block : Message → AnyUnit
as_block u = BlockUnit (block_of u)

abbrev pub as_reply : Message → AnyUnit
as_reply u = ReplyUnit (message_of u)

module _ (layout : Layout) (cluster : ℕ) where
  pub block_is_steps : (u : Message)
      → IsUnit layout cluster (place_in Grid u.header.op) u → AreSteps (format_of layout cluster) (made_events layout u) (block_steps u)
  block_is_steps u is =
      (block_put layout cluster u.header.op u (sectors_of u) (made_brings layout cluster (place_in Grid u.header.op) u (λ same. cc) is), tt)

  pub reply_is_steps : (u : Message) → IsUnit layout cluster (place_in ClientReplies u.header.slot) u
      → AreSteps (format_of layout cluster) (reply_events layout u) (reply_steps u)
  reply_is_steps u is = (reply_put layout cluster u.header.slot u (sectors_of u) (made_brings layout cluster (place_in ClientReplies u.header.slot) u (λ same. cc) is), tt)

  abbrev pub block_rows : Row layout cluster
  block_rows = record { zone = Grid; named = λ u. u.header.op; events = made_events layout; steps = block_steps; place = BlockPlace; theirs = as_block; are_steps = block_is_steps; are_puts = λ u. refl }

  abbrev pub reply_rows : Row layout cluster
  reply_rows = record { zone = ClientReplies; named = λ u. u.header.slot; events = reply_events layout; steps = reply_steps; place = ReplyPlace; theirs = as_reply; are_steps = reply_is_steps; are_puts = λ u. refl }

  -- blocks, each valid at its address, which are one after the other from this one on; and replies, each at its place
  abbrev pub AreInRow : (from : ℕ) → List Message → Type 0
  AreInRow from us = AreRow Grid (λ u. u.header.op) layout cluster from us

  abbrev pub AreReplyRow : (from : ℕ) → List Message → Type 0
  AreReplyRow from us = AreRow ClientReplies (λ u. u.header.slot) layout cluster from us
