use Rattle.std.{proofs.{Common.{◌≡◌, ◌≢◌, ℕ, Bool, true, false, List, take, replicate, rules, sym, ◌∙◌, arith}, lemmas.{Bool.{cond-false, cond-true}, List.{length-take-le}}}, specs.Str.{bytes_eq}}
use Rattle.df_layout.specs.declared.damage.Class.TheVariants.{Blank, Garbled}
use Rattle.df_format.{specs.Shown.{class_of_none, is_blank}, proofs.{Decoded.{decoded_none, decoded_here, decoded_there}, Wholes.{least_size}}}
use Rattle.df_format.proofs.decode.decode_unit.Goals as goal

tells_blank : (bytes : List ℕ) (b : Bool) → b ≡ bytes_eq (take 256 bytes) (replicate 256 0) → b ≡ true → Blank ≡ class_of_none bytes
unfolding is_blank
tells_blank bytes b is zeros = sym (cond-true (is_blank bytes) Blank Garbled (sym is ∙ zeros))

tells_garbled : (bytes : List ℕ) (b : Bool) → b ≡ bytes_eq (take 256 bytes) (replicate 256 0) → b ≡ false → Garbled ≡ class_of_none bytes
unfolding is_blank
tells_garbled bytes b is other = sym (cond-false (is_blank bytes) Blank Garbled (sym is ∙ other))

pub slice_bounds-eq-end : goal.slice_bounds-eq-end
slice_bounds-eq-end c =
    sym (length-take-le 256 c.args.bytes.now (omega (arith, c.requires.size, least_size c.args.layout.now c.args.place.zone)))

pub returns-in-None : goal.returns-in-None
returns-in-None c = decoded_none c.args.layout.now c.args.cluster c.args.place c.args.bytes.now Blank c.in-None.ensures
    (tells_blank c.args.bytes.now c.eq.result c.eq.ensures c.if-eq.true)

pub returns-in-None-2 : goal.returns-in-None-2
returns-in-None-2 c = decoded_none c.args.layout.now c.args.cluster c.args.place c.args.bytes.now Garbled c.in-None-2.ensures
    (tells_garbled c.args.bytes.now c.eq.result c.eq.ensures c.if-eq.false)

pub returns-in-Some : goal.returns-in-Some
returns-in-Some c = let same : c.in-Some.own ≡ c.args.place = search rules in
    decoded_here c.args.layout.now c.args.cluster c.args.place c.args.bytes.now c.in-Some.header c.in-Some.own c.in-Some.ensures same

pub returns-in-Some-2 : goal.returns-in-Some-2
returns-in-Some-2 c = let other : c.in-Some.own ≢ c.args.place = search rules in
    decoded_there c.args.layout.now c.args.cluster c.args.place c.args.bytes.now c.in-Some.header c.in-Some.own c.in-Some.ensures other
