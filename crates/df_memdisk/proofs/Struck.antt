-- What a disk shows when an event or a strike is added.
use Rattle.std.{proofs.{Common.{◌≡◌, ℕ, ◌≤◌, ◌==◌, Bool, true, false, cond, List, [], ◌∷◌, ◌++◌, length, take, drop, map, Option, Some, None, unwrap_or, refl, sym, ap, ◌∙◌, arith, eq-eqb}, lemmas.List.{take-map, drop-map, reverse-append, reverse-reverse, drop-append-le, length-reverse, length-map, take_all}, Math.Path.{fun_ext}, Math.Seq.{drop-length}}, specs.Prelude.{reverse, IfSome, if◌then◌else◌}}
use Rattle.{df_base.specs.{Image.{Image, blank, changed}, Log.{Event, now, now_of, after_event}}, df_disk.specs.Told.{Told, did}}
use Rattle.df_memdisk.{specs.{History.{event_of, events_of}, Newest.{given_by}, Struck.{first_events, events_since, strike_of, left_of, shown_after, AreBehind}, declared.history.Happened.{Happened}, declared.shown.Struck.{Struck}, State.{told_by}, Strikes.{bytes_by, hit, StrikeShowsLog}, declared.strike.Strike.{Strike}, declared.strike.Strike.TheVariants.{Fill, Earlier, Like}}, proofs.{Now.{after_is}, Past.{events_of-push}}}

-- what is told with this log of a disk that began blank
abbrev told_with : List Event → Image → Told
told_with events i = record { log = record { start = blank; events = events }; shown = i }

-- the events of a front of the past are the log's first ones, and those of its back the ones since
pub events_of-first : (n : ℕ) (past : List Happened) → events_of (take n past) ≡ first_events n (events_of past)
events_of-first n past = ap (λ (es : List Event). reverse es) (sym (take-map event_of n past))
    ∙ ap (λ (es : List Event). reverse (take n es)) (sym (reverse-reverse (map event_of past)))

pub events_of-since : (n : ℕ) (past : List Happened) → events_of (drop n past) ≡ events_since n (events_of past)
events_of-since n past = ap (λ (es : List Event). reverse es) (sym (drop-map event_of n past))
    ∙ ap (λ (es : List Event). reverse (drop n es)) (sym (reverse-reverse (map event_of past)))

-- an event changes a sector by what the sector held alone
pub after-local : (e : Event) (i j : Image) (sector : ℕ) → i sector ≡ j sector → after_event e i sector ≡ after_event e j sector
after-local e i j sector same =
    after_is e i sector ∙ ap (λ (bytes : List ℕ). unwrap_or (given_by e sector) bytes) same ∙ sym (after_is e j sector)

reverse-more : (e : Event) (es : List Event) → reverse (e ∷ es) ≡ reverse es ++ e ∷ []
reverse-more e es = reverse-append (e ∷ []) es

events_since-more : (e : Event) (es : List Event) (n : ℕ) → n ≤ length es → events_since n (e ∷ es) ≡ e ∷ events_since n es
events_since-more e es n within = let behind : n ≤ length (reverse es) = omega (arith, length-reverse es) in
    ap (λ (fs : List Event). reverse (drop n fs)) (reverse-more e es)
    ∙ ap (λ (fs : List Event). reverse fs) (drop-append-le n (reverse es) (e ∷ []) behind) ∙ reverse-append (drop n (reverse es)) (e ∷ [])

left-more : (e : Event) (s : Option Struck) (es : List Event) (sector : ℕ) → IfSome s (λ s. s.events ≤ length es)
    → left_of s (e ∷ es) sector ≡ after_event e (left_of s es) sector
left-more e None es sector behind = refl
left-more e (Some s) es sector behind = ap (λ (fs : List Event). now_of (λ x. s.bytes) fs sector) (events_since-more e es s.events behind)

if_some : (b : Bool) (P : Struck → Type 0) (s : Struck) (rest : Option Struck) → P s → IfSome rest P → IfSome (cond b (Some s) rest) P
if_some true P s rest here there = here
if_some false P s rest here there = there

pub strike_of-behind : (strikes : List Struck) (count sector : ℕ)
    → AreBehind strikes count → IfSome (strike_of strikes sector) (λ s. s.events ≤ count)
strike_of-behind [] count sector behind = tt
strike_of-behind (s ∷ strikes) count sector behind =
    if_some (sector == s.sector) (λ s. s.events ≤ count) s (strike_of strikes sector) behind.0 (strike_of-behind strikes count sector behind.1)

pub AreBehind-more : (strikes : List Struck) (n m : ℕ) → n ≤ m → AreBehind strikes n → AreBehind strikes m
AreBehind-more [] n m more behind = tt
AreBehind-more (s ∷ strikes) n m more behind = (omega (arith, behind.0), AreBehind-more strikes n m more behind.1)

-- an event is shown, as in the log
pub shown-more : (e : Event) (strikes : List Struck) (es : List Event) → AreBehind strikes (length es)
    → shown_after strikes (e ∷ es) ≡ after_event e (shown_after strikes es)
unfolding shown_after
shown-more e strikes es behind = fun_ext (λ sector.
    left-more e (strike_of strikes sector) es sector (strike_of-behind strikes (length es) sector behind)
    ∙ after-local e (left_of (strike_of strikes sector) es) (λ x. left_of (strike_of strikes x) es x) sector refl)

struck-at : (b : Bool) (s : Struck) (rest : Option Struck) (es : List Event) (sector : ℕ) → s.events ≡ length es
    → left_of (cond b (Some s) rest) es sector ≡ (if b then s.bytes else left_of rest es sector)
struck-at true s rest es sector last = ap (λ (fs : List Event). now_of (λ x. s.bytes) (reverse fs) sector)
    (ap (λ (n : ℕ). drop n (reverse es)) (last ∙ sym (length-reverse es)) ∙ drop-length (reverse es))
struck-at false s rest es sector last = refl

-- a strike now is shown in its sector
pub shown-struck : (s : Struck) (strikes : List Struck) (es : List Event) → s.events ≡ length es
    → shown_after (s ∷ strikes) es ≡ changed ((s.sector, s.bytes) ∷ []) (shown_after strikes es)
unfolding shown_after
shown-struck s strikes es last = fun_ext (λ sector. struck-at (sector == s.sector) s (strike_of strikes sector) es sector last)

events-count : (past : List Happened) → length (events_of past) ≡ length past
events-count past = length-reverse (map event_of past) ∙ length-map past event_of

-- what is told when the past is one event longer
pub told-more : (past more : List Happened) (h : Happened) (strikes : List Struck) → more ≡ past ++ h ∷ [] → AreBehind strikes (length past)
    → told_by (events_of more) strikes ≡ did (event_of h) (told_by (events_of past) strikes)
told-more past more h strikes is behind = let within : AreBehind strikes (length (events_of past)) =
    AreBehind-more strikes (length past) (length (events_of past)) (omega (arith, events-count past)) behind in
    ap (λ (hs : List Happened). told_by (events_of hs) strikes) is ∙ ap (λ (es : List Event). told_by es strikes) (events_of-push past h)
    ∙ ap (λ (i : Image). told_with (event_of h ∷ events_of past) i) (shown-more (event_of h) strikes (events_of past) within)

-- what is told when the strikes are one more
pub told-struck : (past : List Happened) (strikes more : List Struck) (s : Struck) (strike : Strike)
    → more ≡ strikes ++ s ∷ [] → s.events ≡ length past → s.bytes ≡ bytes_by strike s.sector (told_by (events_of past) (reverse strikes))
    → told_by (events_of past) (reverse more) ≡ hit s.sector strike (told_by (events_of past) (reverse strikes))
told-struck past strikes more s strike is last bytes =
    ap (λ (ss : List Struck). told_by (events_of past) ss) (ap (λ (ss : List Struck). reverse ss) is ∙ reverse-append strikes (s ∷ []))
    ∙ ap (λ (i : Image). told_with (events_of past) i) (shown-struck s (reverse strikes) (events_of past) (last ∙ sym (events-count past)))
    ∙ ap (λ (bs : List ℕ). told_with (events_of past) (changed ((s.sector, bs) ∷ []) (shown_after (reverse strikes) (events_of past)))) bytes

first-all : (n : ℕ) (es : List Event) → length es ≤ n → first_events n es ≡ es
first-all n es within = let all : length (reverse es) ≤ n = omega (arith, length-reverse es) in
    ap (λ (fs : List Event). reverse fs) (take_all n (reverse es) all) ∙ reverse-reverse es

shows-log : (strike : Strike) (t : Told) (sector : ℕ) → StrikeShowsLog strike t.log.events → bytes_by strike sector t ≡ now t.log sector
shows-log (Fill byte) t sector shows = absurd shows
shows-log (Earlier n) t sector shows = ap (λ (es : List Event). now_of t.log.start es sector) (first-all n t.log.events shows)
shows-log (Like other) t sector shows = absurd shows

-- a strike that shows what all events left makes its sector show what the log left
pub hit-log : (sector : ℕ) (strike : Strike) (t : Told)
    → StrikeShowsLog strike t.log.events → (hit sector strike t).shown sector ≡ now t.log sector
hit-log sector strike t shows =
    ap (λ (b : Bool). if b then bytes_by strike sector t else t.shown sector) (eq-eqb sector sector refl) ∙ shows-log strike t sector shows
