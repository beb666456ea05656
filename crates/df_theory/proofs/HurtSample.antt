-- A file, of which nothing is loose, whose only prepare is lost: an open refuses, and names its slot.
use Rattle.std.proofs.Common.{◌≡◌, inl, ℕ, ◌%◌, ◌<◌, List, [], ◌∷◌, length, Some, None, refl, sym, ◌∙◌, ap, arith}
use Rattle.df_theory.{specs.{Units.{AnyUnit, Message, Place, PreparePlace, PrepareUnit, Units}, UnitLog.{now}, Copies.{Agree}, Chance.{InPool, NoChance}, Found.{IsReach, IsTail, NotLost}, Tails.{Chain, In}, Cases.{Takes}, Opens.{Lost}, View.{Checkpoint}, Sample.{HurtSampleLaw}}, proofs.{Hurts.{never_behind_law}, Without.{without, without_else, without_shows}, Ours.{distinct_in, log1_all}, Samples.{content1, first, leads1, log1, shape, view1, prepare1}}}

abbrev shown : Units
shown = without (PreparePlace 1) (now log1)

pooled : (place : Place) (x : AnyUnit) → shown place ≡ Some x → InPool log1 place x
pooled place x is = leads1.0.leads.rests.pooled place x (without_shows (PreparePlace 1) place (now log1) x is)

chance : NoChance log1 shown
chance = record { pooled = pooled; distinct = distinct_in log1 log1_all }

agreed : Agree shown content1
agreed = record { first = 0; second = 1; apart = omega arith; inside = omega arith; at_first = refl; at_second = refl }

base : Checkpoint
base = first.checkpoint

-- the slot of the first op shows nothing
no_more : (ps : List Message) → 0 < length ps → ((p : Message) → In p ps → Takes 16 shown content1 p) → Chain 4 1 0 0 [] ps → ⊥
no_more [] some takes chain = omega arith
no_more (p ∷ ps) some takes chain =
    let none : shown (PreparePlace (p.header.op % 16)) ≡ None = ap (λ (o : ℕ). shown (PreparePlace (o % 16))) chain.0.op_is in
    let both : Some (PrepareUnit p) ≡ None = sym (takes p (inl refl)).shown ∙ none in cc

no_tail : IsTail shape shown first.checkpoint []
no_tail = record {
  chain = tt;
  takes = λ p none. absurd none;
  room = omega arith;
  grouped = tt;
  groups = λ p none. absurd none;
  pin_ends = λ p none low. absurd none;
  reaches = omega arith;
  pinned = refl;
  longest = λ ps more. no_more ps more.some more.behind.shown more.behind.chain;
}

reach : IsReach shape shown first.checkpoint [] []
reach = record {
  behind = record { room = omega arith; shown = λ p none. absurd none; chain = tt; grouped = tt };
  longest = λ p behind. no_more (p ∷ []) (omega arith) behind.shown behind.chain;
}

lost : NotLost shown content1 0 → ⊥
lost none = omega (arith, none.header 1 prepare1.header refl refl)

pub hurt_sample_law : HurtSampleLaw
hurt_sample_law = let never = never_behind_law shape log1 view1 shown leads1.0.leads.rests pooled agreed in record {
  shape = shape;
  log = log1;
  view = view1;
  shown = shown;
  rests = leads1.0.leads.rests;
  chance = chance;
  agreed = agreed;
  hurt = λ place away. without_else (PreparePlace 1) place (now log1) away;
  refuses = Lost first.checkpoint [] [] (record {
    readable = record { chosen = never.0; sound = leads1.0.leads.rests.holds.bears.sound.checkpoint; shown = λ a x none. absurd none };
    not_behind = never.1;
    tail_is = no_tail;
  }) reach lost;
}
