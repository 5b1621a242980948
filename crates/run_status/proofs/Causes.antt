-- The causes of a status, from those of its parts.
use Rattle.std.proofs.Common.{◌≡◌, ◌∙◌, sym, inl, inr, ℕ}
use Rattle.symk_io.specs.View.{Bytes, SinkView}
use Rattle.symk_io.specs.Causes.{Rose}
use Rattle.run_status.specs.Ends.{EndsWithText, HasCauses}
use Rattle.run_status.specs.declared.status.Status.{Status}
use Rattle.run_status.specs.declared.status.Status.TheVariants.{Unreadable, WriteFault, Memory}

-- a text that ends the run, after the files were read
pub causes_of_end : (status : Status) (text : Bytes) (files files' : ℕ) (old new : SinkView) (result : Status)
    → EndsWithText status text old new result → (status ≡ Unreadable → Rose files files')
    → ((status ≡ Unreadable → ⊥) → files' ≡ files) → (status ≡ WriteFault → ⊥)
    → HasCauses result files files' old.faults new.faults
causes_of_end status text files files' old new result (inl h) rose stayed other = record {
  unreadable = λ e. rose (sym h.0 ∙ e);
  write = λ e. absurd (other (sym h.0 ∙ e));
  quiet = λ nu nw nm. (stayed (λ e. nu (h.0 ∙ e)), h.2);
}
causes_of_end status text files files' old new result (inr (inl h)) rose stayed other = record {
  unreadable = λ e. let bad : WriteFault ≡ Unreadable = sym h.0 ∙ e in absurd (cc);
  write = λ e. h.2;
  quiet = λ nu nw nm. absurd (nw h.0);
}
causes_of_end status text files files' old new result (inr (inr h)) rose stayed other = record {
  unreadable = λ e. let bad : Memory ≡ Unreadable = sym h.0 ∙ e in absurd (cc);
  write = λ e. let bad : Memory ≡ WriteFault = sym h.0 ∙ e in absurd (cc);
  quiet = λ nu nw nm. absurd (nm h.0);
}
