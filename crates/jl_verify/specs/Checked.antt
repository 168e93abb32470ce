-- What is checked of a method: its class, itself, its code, the instructions there, and the frames that are declared for them (JVMS 4.10.1).
use Rattle.std.specs.Prelude.{List}
use Rattle.jl_code.specs.declared.code.Instr.{Instr}
use Rattle.jl_class.specs.Classes.{Class as ClassFile}
use Rattle.jl_class.specs.declared.member.MethodDecl.{MethodDecl}
use Rattle.jl_class.specs.declared.member.CodeBytes.{CodeBytes}
use Rattle.jl_verify.specs.declared.declared_frame.DeclaredFrame.{DeclaredFrame}

pub record Checked : Type 0 where
  pub class : ClassFile
  pub method : MethodDecl
  pub code : CodeBytes
  pub instrs : List Instr
  pub declared : List DeclaredFrame
