-- Runs of commands, and what they begin with.
use Rattle.std.proofs.Common.{◌≡◌, ℕ, ◌%◌, ◌≤◌, List, [], ◌∷◌, length, map, Some, None, refl, sym, ap, subst, arith}
use Rattle.df_theory.{specs.{Units.{Block, BlockPlace, BlockUnit, Message, Parts, PreparePlace, PrepareUnit, Units}, Sessions.{session_of_header}, Tails.{In}, Trailer.{InChain, no_parts, text_of}, Shape.{Shape}, View.{View, sessions}, Found.{AreOfPlaces, IsFound, IsInRange}, UnitLog.{UnitLog, now}, Runs.{after_steps, steps_of}, TidyLaws.{KeepStanding, LeadTidily}}, proofs.Laws.{after_append, found_sound, standing_run_law, text_bytes, tidy_run_law}}
use Rattle.df_model.{specs.{Work.{Work, kept}, Codec.{AreBytes, IsCodec, IsLawfulSession}, Commands.{after}, Sense.{IsBacked}, Laws.{FoundStateLaw, HasFields, IsKeptBy}, Runs.{DoAll, FirstKeptLaw, OpenedKeptLaw, RunLaw, Stepped, act_of, led_by, work_after}}, proofs.{Keeps.{opened_law, sessions_lawful}, Does.{command_law}, Writing.{Both}}}

-- ---- runs

leads_all : (sh : Shape) (spell : Parts → List ℕ) (log : UnitLog) (w : Work) (xs : List Stepped)
    → IsKeptBy sh spell log w → DoAll sh spell log w xs → LeadTidily sh log (kept w) (led_by sh spell w xs)
    × IsKeptBy sh spell (after_steps (steps_of (led_by sh spell w xs)) log) (work_after sh spell w (map act_of xs))
leads_all sh spell log w [] keeps does = (tt, keeps)
leads_all sh spell log w (x ∷ xs) keeps does = let u : Work = (after sh spell w x.act.given x.act.command).0 in
    let one : Both sh spell log w u x.steps = command_law sh spell log w x.act.given x.act.command x.steps does.1 keeps does.0 in
    let rest = leads_all sh spell (after_steps x.steps log) u xs one.0.keeps does.2 in
    ((one.0.leads, rest.0), rw (sym (after_append x.steps (steps_of (led_by sh spell u xs)) log)) at rest.1)

stands_all : (sh : Shape) (spell : Parts → List ℕ) (log : UnitLog) (w : Work) (xs : List Stepped)
    → IsKeptBy sh spell log w → DoAll sh spell log w xs → IsBacked log w → KeepStanding sh log (kept w) (led_by sh spell w xs)
    × IsBacked (after_steps (steps_of (led_by sh spell w xs)) log) (work_after sh spell w (map act_of xs))
stands_all sh spell log w [] keeps does backed = (tt, backed)
stands_all sh spell log w (x ∷ xs) keeps does backed = let u : Work = (after sh spell w x.act.given x.act.command).0 in
    let one : Both sh spell log w u x.steps = command_law sh spell log w x.act.given x.act.command x.steps does.1 keeps does.0 in
    let on = one.1 backed in let rest = stands_all sh spell (after_steps x.steps log) u xs one.0.keeps does.2 on.backed in
    ((on.stands, rest.0), rw (sym (after_append x.steps (steps_of (led_by sh spell u xs)) log)) at rest.1)

pub run_law : RunLaw
run_law sh spell log w xs keeps does = let all = leads_all sh spell log w xs keeps does in let cs = led_by sh spell w xs in (
  record { leads = all.0; survives = (tidy_run_law sh log (kept w) cs keeps.tidy all.0).0; keeps = all.1 },
  λ backed. let stands = stands_all sh spell log w xs keeps does backed in
      record { survives = (standing_run_law sh log (kept w) cs keeps.tidy all.0 backed.standing stands.0).0; backed = stands.1 },
)

-- ---- what they begin with

-- a prepare that is shown has its fields in range
shown_lawful : (sh : Shape) (image : Units) (p : Message) → AreOfPlaces sh image
    → image (PreparePlace (p.header.op % sh.layout.slots)) ≡ Some (PrepareUnit p) → IsLawfulSession (session_of_header p.header)
shown_lawful sh image p places shows = let of = places (PreparePlace (p.header.op % sh.layout.slots)) (PrepareUnit p) shows in
    let same : of.0 ≡ p = cc (of.1) in let range : IsInRange p.header = rw same at of.3 in
    record { client = range.client; request = range.request; op = range.op }

-- whatever was done to the image: what is found in it makes sense
found_fields : (sh : Shape) (image : Units) (v : View) → AreOfPlaces sh image → IsFound sh image v → HasFields v
found_fields sh image v places found = record { prepares = λ p at. shown_lawful sh image p places (found.tail.takes p at).shown; bytes = text_bytes sh image v.checkpoint.chain places (λ a b at. found.chain_shown a b at) }

pub found_law : FoundStateLaw
found_law sh spell image v codec version places found = opened_law sh spell
    image v codec version (found_sound sh image v places found) (found_fields sh image v places found) (λ a b at. found.chain_shown a b at)

-- and it has no more sessions than there are places
pub found_few : (sh : Shape) (spell : Parts → List ℕ) (image : Units) (v : View)
    → IsCodec sh spell → AreOfPlaces sh image → IsFound sh image v → length (sessions v) ≤ sh.layout.clients
found_few sh spell image v codec places found =
    (sessions_lawful sh spell v codec (found_sound sh image v places found) (found_fields sh image v places found)).few

pub opened_kept_law : OpenedKeptLaw
opened_kept_law sh spell log v codec version tidy places = (
  record {
    sense = opened_law sh spell (now log) v codec version tidy.rests.holds.bears.sound
        (record { prepares = λ p at. shown_lawful sh (now log) p places (tidy.rests.holds.bears.needs (PreparePlace (p.header.op % sh.layout.slots)) (PrepareUnit p) (p, at, refl, refl)); bytes = text_bytes sh (now log) v.checkpoint.chain places (λ a b at. tidy.rests.holds.bears.needs (BlockPlace a) (BlockUnit b) (b, at, refl)) })
        (λ a b at. tidy.rests.holds.bears.needs (BlockPlace a) (BlockUnit b) (b, at, refl));
    tidy = tidy;
    written = λ r none. absurd (cc);
  },
  λ standing. record {
    standing = standing;
    live = standing.shown;
    captured = λ r none. absurd (cc);
  },
)

no_reference : (parts : Parts) (a c : ℕ) → parts ≡ no_parts → parts.references a ≡ Some c → ⊥
no_reference parts a c none is = (let empty : parts.references a ≡ None = ap (λ (p : Parts). p.references a) none in cc (is, empty))

pub first_kept_law : FirstKeptLaw
first_kept_law sh spell log v codec version tidy standing first = (
  record {
    sense = opened_law sh spell (now log) v codec version tidy.rests.holds.bears.sound
        (record { prepares = λ p at. absurd (subst (In p) first.tail at); bytes = rw first.chain (λ i. omega arith) })
        (λ a b at. absurd (subst (InChain a b) first.chain at));
    tidy = tidy;
    written = λ r none. absurd (cc);
  },
  record {
    standing = standing;
    live = λ a c is. absurd (no_reference v.checkpoint.parts a c first.parts is);
    captured = λ r none. absurd (cc);
  },
)
