use Rattle.std.{proofs.Common.{◌≡◌, ◌+◌, ◌-◌, ◌/◌, ◌++◌, ℕ, List, take, drop, ap, sym, ◌∙◌, arith, length, length-append}, specs.Prelude.{min}}
use Rattle.{df_base.{specs.Fields.{spelled}, proofs.Laws.{length-spelled}}, df_units.specs.Meaning.{layout_of}}
use Rattle.df_trailer.{specs.{Spelling.{spell, spell_checks, spell_sessions}, Writing.{IsPieceShown, captured_bits, captured_blocks, captured_parts, sessions_of}}, proofs.{Sessions.{so_sessions}, Shown.{length_of, same_text, window_is}}}
use Rattle.df_trailer.proofs.writer.put_window.Goals as goal

pub returns-clause-shown : goal.returns-clause-shown
returns-clause-shown g c = let f = g.G.CapturedBlocks.captured c.args.grid.now in let blocks : ℕ = c.args.layout.now.blocks in
    let root : List ℕ = c.args.root.now in let ss : List ℕ = spell_sessions (sessions_of c.args.sessions.now) in
    let n : ℕ = length c.args.sessions.now in let x : ℕ = captured_bits f blocks in let q : ℕ = (blocks + 7) / 8 in
    let cs : List ℕ = spell_checks (captured_blocks f blocks) in let t1 : List ℕ = spelled 4 (length root) ++ root in
    let t2 : List ℕ = t1 ++ spelled 4 n in let t3 : List ℕ = t2 ++ ss in let t4 : List ℕ = t3 ++ spelled q x in
    let t5 : List ℕ = t4 ++ cs in let n1 : length t1 ≡ c.put_root-at.result =
    omega (arith, length-append (spelled 4 (length root)) root, length-spelled 4 (length root), c.put_root-at.ensures.next) in
    let n2 : length t2 ≡ c.put_u32-at.result =
    omega (arith, n1, length-append t1 (spelled 4 n), length-spelled 4 n, c.put_u32-at.ensures.next) in
    let n3 : length t3 ≡ c.put_sessions-at.result = omega (arith, n2, length-append t2 ss, (so_sessions (sessions_of c.args.sessions.now)).size, length_of c.args.sessions.now, c.put_sessions-at.ensures.next) in
    let n4 : length t4 ≡ c.put_bits-at.result =
    omega (arith, n3, length-append t3 (spelled q x), length-spelled q x, c.put_bits-at.ensures.next) in
    let shown : IsPieceShown t5 c.args.from c.put_checks-end.new.room =
    c.put_checks-end.ensures.shown t4 n4 (c.put_bits-at.ensures.shown
    t3 n3 (c.put_sessions-at.ensures.shown t2 n2 (c.put_u32-at.ensures.shown t1 n1 c.put_root-at.ensures.shown))) in
    let same : t5 ≡ spell (layout_of c.args.layout.now) (captured_parts root c.args.sessions.now f) =
    same_text (spelled 4 (length root)) root (spelled 4 n) ss (spelled q x) cs
    ∙ ap (λ (m : ℕ). spelled 4 (length root) ++ (root ++ (spelled 4 m ++ (ss ++ (spelled q x ++ cs))))) (sym (length_of c.args.sessions.now)) in
    let room : length c.put_checks-end.new.room ≡ length c.args.room.now = omega (arith, c.put_root-at.ensures.length, c.put_u32-at.ensures.length, c.put_sessions-at.ensures.length, c.put_bits-at.ensures.length, c.put_checks-end.ensures.length) in
    let size : c.left_of.result ≡ min (length t5 - c.args.from) (length c.put_checks-end.new.room) =
    omega (arith, c.left_of.ensures, c.put_checks-end.ensures.left, n4, length-append t4 cs, room) in
    window_is t5 c.put_checks-end.new.room c.args.from c.left_of.result shown size
    ∙ ap (λ (m : ℕ). take m (drop c.args.from t5)) room ∙ ap (λ (t : List ℕ). take (length c.args.room.now) (drop c.args.from t)) same
