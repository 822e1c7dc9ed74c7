-- What a row of each kind pushes: IS-PRECOMPILE is 1 for an extension alone, and its DATA is its call's.
-- Assumes nothing.
use mathlib.Core.Path.{sym}
use Rattle.form.specs.declared.Instruction.{Instruction}
use Rattle.form.specs.declared.Form.{Form}
use Rattle.form.specs.declared.Kind.{Kind}
use Rattle.form.specs.declared.Kind.TheVariants.{Add, Mul, Deref, Jump, Extension}
use Rattle.form.proofs.Forms.{Words}
use Rattle.form.proofs.DataLaws.{reads}
use Rattle.rows.specs.declared.Exec.{Exec}
use Rattle.rules.specs.Given.{Given}
use Rattle.run_steps.specs.Setting.{machine_in, Selected, PushesBy}
use Rattle.run_steps.proofs.Codes.{codes}

pub pushes_by : (g : Given) (x : Exec) (i : Instruction) (f : Form) → Selected g x i f → (k : Kind) → Words i k → PushesBy (machine_in g) f i x k
pushes_by g x i f e Add ws = (codes i Add ws).precompile_is
pushes_by g x i f e Mul ws = (codes i Mul ws).precompile_is
pushes_by g x i f e Deref ws = (codes i Deref ws).precompile_is
pushes_by g x i f e Jump ws = (codes i Jump ws).precompile_is
pushes_by g x i f e (Extension op be n) ws =
    let d = reads i.«data» op be n ws.1 in
    record {
      once = (codes i (Extension op be n) ws).precompile_is;
      tuple = λ j. record { aux = sym d.word j; left = e.a j; right = e.b j; out = e.c j };
      some = d.some;
      most = d.most;
    }
