-- How moments go on, one event after another; and a fact at each moment of some events.
use Rattle.std.proofs.{Common.{◌≡◌, ◌⊎◌, inl, inr, List, [], ◌∷◌, ◌++◌, length, refl, ◌∙◌, ap, subst, sym, arith, drop, suc, ◌-◌, append_assoc, length-append}, lemmas.List.Prefix.{end_rest}}
use Rattle.df_base.specs.{Log.{Log, Event, add}, Moments.{Extends, EachMoment, Passed, adds}}

pub same_log : (a b : Log) → a.events ≡ b.events → a.start ≡ b.start → a ≡ b
same_log a b es st i = record { start = st i; events = es i }

pub extends_self : (log : Log) → Extends log log
extends_self log = ([], refl, refl)

pub extends_add : (e : Event) (later earlier : Log) → Extends later earlier → Extends (add e later) earlier
extends_add e later earlier more = (e ∷ more.0, ap (λ (l : List Event). e ∷ l) more.1, more.2)

pub extends_on : (last later earlier : Log) → Extends last later → Extends later earlier → Extends last earlier
extends_on last later earlier one two =
    (one.0 ++ two.0, one.1 ∙ ap (λ (l : List Event). one.0 ++ l) two.1 ∙ sym (append_assoc one.0 two.0 earlier.events), one.2 ∙ two.2)

pub adds_on : (es fs : List Event) (log : Log) → adds (es ++ fs) log ≡ adds fs (adds es log)
adds_on [] fs log = refl
adds_on (e ∷ es) fs log = adds_on es fs (add e log)

-- the log after an event is the only new moment
split_until : (e : Event) (mid log : Log) (new : List Event)
    → e ∷ mid.events ≡ new ++ log.events → mid.start ≡ log.start → (add e mid ≡ log) ⊎ Extends mid log
split_until e mid log [] events start = inl (same_log (add e mid) log events start)
split_until e mid log (x ∷ new) events start = let rest : mid.events ≡ new ++ log.events = cc in inr (new, rest, start)

pub more : (e : Event) (entry mid : Log) (P : Log → Type 0) → EachMoment entry mid P → P (add e mid) → EachMoment entry (add e mid) P
more e entry mid P before here log moment = elim (split_until e mid log moment.until.0 moment.until.1 moment.until.2) [
  | inl is ↦ subst P is here
  | inr until ↦ before log (record { since = moment.since; until = until })
]

none_longer : (a b es : List Event) → es ≡ a ++ (b ++ es) → a ≡ []
none_longer [] b es is = refl
none_longer (x ∷ a) b es is = absurd (omega (arith, ap length is, length-append (x ∷ a) (b ++ es), length-append b es))

-- before the first call
pub started : (entry : Log) (P : Log → Type 0) → P entry → EachMoment entry entry P
started entry P here log moment = let none : moment.until.0 ≡ [] =
    none_longer moment.until.0 moment.since.0 entry.events (moment.until.1 ∙ ap (λ (l : List Event). moment.until.0 ++ l) moment.since.1) in
    let same : entry.events ≡ log.events = moment.until.1 ∙ ap (λ (l : List Event). l ++ log.events) none in
    subst P (same_log entry log same moment.until.2) here

-- a weaker fact
pub weaker : (entry exit : Log) (P Q : Log → Type 0) → ((log : Log) → P log → Q log) → EachMoment entry exit P → EachMoment entry exit Q
weaker entry exit P Q implies each log moment = implies log (each log moment)

last_of : (xs : List Event) → (xs ≡ []) ⊎ ((front : List Event) × (last : Event) × (xs ≡ front ++ last ∷ []))
last_of [] = inl refl
last_of (x ∷ xs) = elim (last_of xs) [
  | inl none ↦ inr ([], x, ap (λ (l : List Event). x ∷ l) none)
  | inr some ↦ inr (x ∷ some.0, some.1, ap (λ (l : List Event). x ∷ l) some.2)
]

same_end : (s a b : List Event) (x y : Event) (es : List Event) → s ≡ a ++ x ∷ es → s ≡ b ++ y ∷ es → x ≡ y
same_end s a b x y es one two = let first : drop (length s - suc (length es)) s ≡ x ∷ es = end_rest s (x ∷ es) a one in
    let second : drop (length s - suc (length es)) s ≡ y ∷ es = end_rest s (y ∷ es) b two in cc

-- a fact from an event on, and before it
pub from_before : (e : Event) (entry exit : Log) (P : Log → Type 0)
    → P entry → Extends exit (add e entry) → EachMoment (add e entry) exit P → EachMoment entry exit P
from_before e entry exit P here grown later log moment = elim (last_of moment.since.0) [
  | inl none ↦ subst P (same_log entry log (sym (moment.since.1 ∙ ap (λ (l : List Event). l ++ entry.events) none)) (sym moment.since.2)) here
  | inr some ↦ let events : log.events ≡ some.0 ++ some.1 ∷ entry.events =
      moment.since.1 ∙ ap (λ (l : List Event). l ++ entry.events) some.2 ∙ append_assoc some.0 (some.1 ∷ []) entry.events in
      let ended : exit.events ≡ (moment.until.0 ++ some.0) ++ some.1 ∷ entry.events = moment.until.1
      ∙ ap (λ (l : List Event). moment.until.0 ++ l) events ∙ sym (append_assoc moment.until.0 some.0 (some.1 ∷ entry.events)) in
      let same : some.1 ≡ e = same_end exit.events (moment.until.0 ++ some.0) grown.0 some.1 e entry.events ended grown.1 in
      later log (record { since = (some.0, events ∙ ap (λ (x : Event). some.0 ++ x ∷ entry.events) same, moment.since.2); until = moment.until })
]

grown_from : (e : Event) (log exit : Log) → Extends exit (add e log) → Extends exit log
grown_from e log exit more = (more.0 ++ e ∷ [], more.1 ∙ sym (append_assoc more.0 (e ∷ []) log.events), more.2)

pub adds_extends : (es : List Event) (log : Log) → Extends (adds es log) log
adds_extends [] log = extends_self log
adds_extends (e ∷ es) log = grown_from e log (adds es (add e log)) (adds_extends es (add e log))

-- at the log, and after each of these events
abbrev pub AtEach : (Log → Type 0) → Log → List Event → Type 0
AtEach P log [] = P log
AtEach P log (e ∷ es) = P log × AtEach P (add e log) es

pub at_weaker : (P Q : Log → Type 0) → ((log : Log) → P log → Q log) → (es : List Event) (log : Log) → AtEach P log es → AtEach Q log es
at_weaker P Q implies [] log each = implies log each
at_weaker P Q implies (e ∷ es) log each = (implies log each.0, at_weaker P Q implies es (add e log) each.1)

-- nothing happened
pub stands : (P : Log → Type 0) (log : Log) → P log → Passed log log P
stands P log here = record { grew = extends_self log; moments = started log P here }

-- an event, and what happened after it
pub goes_on : (P : Log → Type 0) (e : Event) (log exit : Log) → P log → Passed (add e log) exit P → Passed log exit P
goes_on P e log exit here later =
    record { grew = grown_from e log exit later.grew; moments = from_before e log exit P here later.grew later.moments }
