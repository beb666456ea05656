use Rattle.std.proofs.{Common.{◌≡◌, ◌<◌, ◌+◌, ◌*◌, ◌++◌, [], ◌∷◌, ℕ, suc, take, length, slice_index_or, List, ap, ◌∙◌, sym, arith, rules}, lemmas.Option.{slice_get-get_or}}
use Rattle.{df_format.specs.{UnitLaws.{headers_bytes}, declared.header.Header.{Header}}, df_headers.proofs.Bytes.{bytes_more}}
use Rattle.df_headers.proofs.sectors.put_all.Goals as goal

-- the bytes of one header more; what stands past the end of the list doesn't matter
one_more : (headers : List Header) (i : ℕ) (past : Header) → i < length headers
    → headers_bytes (take i headers) ++ headers_bytes (slice_index_or headers i past ∷ []) ≡ headers_bytes (take (i + 1) headers)
one_more headers i past inside = let one : i + 1 ≡ suc i = omega arith in sym (ap (λ (n : ℕ). headers_bytes (take n headers)) one
    ∙ bytes_more headers i (slice_index_or headers i past) (slice_get-get_or headers i past inside))

-- so they stand at the front after its write
pub front_more : (headers : List Header) (i : ℕ) (past : Header) (old new : List ℕ)
    → i < length headers → take (256 * i + 256) new ≡ take (256 * i) old ++ headers_bytes (slice_index_or headers i past ∷ [])
    → take (256 * i) old ≡ headers_bytes (take i headers) → take (256 * (i + 1)) new ≡ headers_bytes (take (i + 1) headers)
front_more headers i past old new inside is before = let same : 256 * (i + 1) ≡ 256 * i + 256 = omega arith in
    ap (λ (n : ℕ). take n new) same
    ∙ is ∙ ap (λ (l : List ℕ). l ++ headers_bytes (slice_index_or headers i past ∷ [])) before ∙ one_more headers i past inside

pub put_one-requires-clause-header : goal.put_one-requires-clause-header
put_one-requires-clause-header c = c.requires.sixteen.each
    c.loop-i.i _ (slice_get-get_or c.args.headers.now c.loop-i.i _ (omega (arith, c.requires.sixteen.count, c.loop-i-test.true)))

pub loop-i-preserved : goal.loop-i-preserved
loop-i-preserved c = let inside : c.loop-i.i < length c.args.headers.now = omega (arith, c.requires.sixteen.count, c.loop-i-test.true) in
    record {
      size = search (rules, c.put_one.ensures.size, c.loop-i.invariant.size);
      within = omega (arith, c.requires.sixteen.count, c.loop-i-test.true);
      front = front_more c.args.headers.now c.loop-i.i _ _ c.put_one.new.bytes inside c.put_one.ensures.front c.loop-i.invariant.front;
    }
