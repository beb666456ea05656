-- Views that keep one another: each keeps itself, and they do so back and on.
use Rattle.{std.proofs.Common.{◌∙◌, refl, sym}, df_theory.specs.{Next.{SameCheckpoint}, Units.{Content}, View.{View}}}
use Rattle.df_model.specs.Views.{KeepsView}

same_self : (c : Content) → SameCheckpoint c c
same_self c = record { file = (refl, refl, refl, refl); sequence = refl; op = (refl, refl); trailer = (refl, refl, refl) }

same_back : (c d : Content) → SameCheckpoint c d → SameCheckpoint d c
same_back c d is = record {
  file = (sym is.file.0, sym is.file.1, sym is.file.2, sym is.file.3);
  sequence = sym is.sequence;
  op = (sym is.op.0, sym is.op.1);
  trailer = (sym is.trailer.0, sym is.trailer.1, sym is.trailer.2);
}

same_on : (c d e : Content) → SameCheckpoint c d → SameCheckpoint d e → SameCheckpoint c e
same_on c d e one two = record {
  file = (two.file.0 ∙ one.file.0, two.file.1 ∙ one.file.1, two.file.2 ∙ one.file.2, two.file.3 ∙ one.file.3);
  sequence = two.sequence ∙ one.sequence;
  op = (two.op.0 ∙ one.op.0, two.op.1 ∙ one.op.1);
  trailer = (two.trailer.0 ∙ one.trailer.0, two.trailer.1 ∙ one.trailer.1, two.trailer.2 ∙ one.trailer.2);
}

pub keeps_self : (v : View) → KeepsView v v
keeps_self v = record { content = same_self v.checkpoint.content; chain = refl; parts = refl; tail = refl; replies = refl; stored = λ k. refl }

pub keeps_back : (v u : View) → KeepsView v u → KeepsView u v
keeps_back v u is = record {
  content = same_back v.checkpoint.content u.checkpoint.content is.content;
  chain = sym is.chain;
  parts = sym is.parts;
  tail = sym is.tail;
  replies = sym is.replies;
  stored = λ k. sym (is.stored k);
}

pub keeps_on : (v u w : View) → KeepsView v u → KeepsView u w → KeepsView v w
keeps_on v u w one two = record {
  content = same_on v.checkpoint.content u.checkpoint.content w.checkpoint.content one.content two.content;
  chain = two.chain ∙ one.chain;
  parts = two.parts ∙ one.parts;
  tail = two.tail ∙ one.tail;
  replies = two.replies ∙ one.replies;
  stored = λ k. two.stored k ∙ one.stored k;
}
