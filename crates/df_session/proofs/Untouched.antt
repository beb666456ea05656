-- What isn't written stays out of a stop's reach: the blocks of the durable checkpoint, after a call that answered or not.
use Rattle.std.proofs.{Common.{◌≡◌, inl, inr, ℕ, ◌||◌, Bool, true, false, List, [], ◌∷◌, Some, refl, sym, ◌∙◌, ap}, lemmas.Bool.{or_parts, or_from, or_cases}}
use Rattle.df_base.specs.{Image.{covers}, Log.{Event, Log, Stop, Sync, Write, add, loose}, Moments.{adds}}
use Rattle.df_disk.specs.{Adds.{after_all}, Told.{Told, did}}
use Rattle.df_model.{specs.{Commands.{Advance, Command}, Sense.{AtEachOf, IsClearAddress}, Work.{Running, Work, is_captured, is_held, is_known, is_of}}, proofs.Laws.{some_of}}
use Rattle.df_replica.specs.{Below.{DataFile}, Leaving.{AreSettled, SparesHeld, WritesNext, is_durable, writes_to}}

-- ---- tests

last_true : (x y z : Bool) → z ≡ true → (x || (y || z)) ≡ true
last_true true y z is = refl
last_true false true z is = refl
last_true false false z is = is

-- ---- logs

same_told : (t n : Told) → Some t ≡ Some n → t ≡ n
same_told t n is = cc

log_after : (events : List Event) (t n : Told) → after_all events (Some t) ≡ Some n → adds events t.log ≡ n.log
log_after [] t n is = ap (λ (x : Told). x.log) (same_told t n is)
log_after (e ∷ es) t n is = log_after es (did e t) n is

firm_on : (es : List Event) (log : Log) (sector : ℕ)
    → writes_to es sector ≡ false → loose log sector ≡ false → loose (adds es log) sector ≡ false
firm_on [] log sector none firm = firm
firm_on ((Write at bytes) ∷ es) log sector none firm = let parts = or_parts (covers at bytes sector) (writes_to es sector) none in
    firm_on es (add (Write at bytes) log) sector parts.1 (or_from (covers at bytes sector) (loose log sector) parts.0 firm)
firm_on (Sync ∷ es) log sector none firm = firm_on es (add Sync log) sector none refl
firm_on ((Stop changes) ∷ es) log sector none firm = firm_on es (add (Stop changes) log) sector none refl

-- ---- blocks of the durable checkpoint

-- no address of the running trailer is one of theirs
module _ (w : Work) (clear : (r : Running) → w.running ≡ Some r → AtEachOf (IsClearAddress w.live w.view.checkpoint) r.left) where
  clear_is_none : (a : ℕ) → IsClearAddress w.live w.view.checkpoint a → is_durable w a ≡ true → ⊥
  clear_is_none a is durable = elim (or_cases (is_known (w.view.checkpoint.parts.references a)) (is_of a w.view.checkpoint.chain) durable) [
    | inl known ↦ let no : false ≡ true = sym (ap is_known is.unreferenced) ∙ known in cc
    | inr chained ↦ let at = some_of a w.view.checkpoint.chain chained in is.no_trailer at.0 at.1
  ]

  not_next : (command : Command) (a : ℕ) → is_durable w a ≡ true → WritesNext command w a → ⊥
  not_next Advance a durable next = clear_is_none a (rw next.3 at (clear next.0 next.2)).0 durable
  not_next command a durable next = absurd next

  is_held_too : (a : ℕ) → is_durable w a ≡ true → is_held w a ≡ true
  is_held_too a durable = last_true (is_known (w.live a)) (is_captured a w.running) (is_durable w a) durable

  -- so what spares the blocks that are held leaves them firm
  pub stay_settled : (file : DataFile) (command : Command) (events : List Event) (log : Log)
      → SparesHeld file command w events → AreSettled file log w → AreSettled file (adds events log) w
  stay_settled file command events log spares settled = record {
    firm = λ a sector durable at. firm_on
        events log sector (spares a (is_held_too a durable) (not_next command a durable) sector at) (settled.firm a sector durable at);
  }

-- ---- as it is told

pub settled_told : (file : DataFile) (w : Work) (events : List Event) (t n : Told)
    → after_all events (Some t) ≡ Some n → AreSettled file (adds events t.log) w → AreSettled file n.log w
settled_told file w events t n is settled = rw (log_after events t n is) at settled
