-- Worked rows of the definitions.
use Rattle.std.proofs.Common.{◌≡◌, ℕ, [], ◌∷◌, arith, None, Some, true, false, refl, zero, suc, ◌+◌}
use Rattle.std.specs.Prelude.{if◌then◌else◌}
use Rattle.jl_optable.specs.declared.form.Operands.TheVariants as kinds
use Rattle.jl_optable.specs.declared.ops.TheConstants as ops
use Rattle.jl_optable.specs.Rows.{row_of, Rise, is_stub, operands_of, has_row, form_of}

-- how many of n bytes from one on have no row
gaps : ℕ → ℕ → ℕ
gaps zero op = 0
gaps (suc n) op = if has_row op then gaps n (op + 1) else suc (gaps n (op + 1))

all_gaps : gaps 256 0 ≡ 57
unfolding gaps has_row
all_gaps = refl

subroutines : (form_of 168 ≡ None) × (form_of 169 ≡ None)
unfolding form_of has_row
subroutines = (refl, refl)

breakpoint : (form_of 202 ≡ None) × (form_of 255 ≡ None)
unfolding form_of has_row
breakpoint = (refl, refl)

nop : form_of 0 ≡ Some (record { op = 0; stub = false; operands = kinds.Nothing })
unfolding form_of has_row is_stub operands_of
nop = refl

fconst_0 : form_of 11 ≡ Some (record { op = 11; stub = true; operands = kinds.Nothing })
unfolding form_of has_row is_stub operands_of
fconst_0 = refl

dload : form_of 24 ≡ Some (record { op = 24; stub = true; operands = kinds.Local })
unfolding form_of has_row is_stub operands_of
dload = refl

iinc : form_of 132 ≡ Some (record { op = 132; stub = false; operands = kinds.Inc })
unfolding form_of has_row is_stub operands_of
iinc = refl

invokedynamic : form_of 186 ≡ Some (record { op = 186; stub = true; operands = kinds.Dynamic })
unfolding form_of has_row is_stub operands_of
invokedynamic = refl

goto_w : form_of 200 ≡ Some (record { op = 200; stub = false; operands = kinds.Target4 })
unfolding form_of has_row is_stub operands_of
goto_w = refl

-- the mnemonics are those of the standard
aload_0 : form_of ops.ALOAD_0 ≡ Some (record { op = 42; stub = false; operands = kinds.Nothing })
unfolding form_of has_row is_stub operands_of
aload_0 = refl

two_rise : Rise (row_of 0 ∷ row_of 1 ∷ [])
two_rise = ((omega arith, tt), (tt, tt))

none_fall : Rise (row_of 1 ∷ row_of 0 ∷ []) → ⊥
none_fall up = omega (arith, up.0.0)

-- ---- the mnemonics and their numbers (JVMS 6.5, 7)

constants : ops.NOP ∷ ops.ACONST_NULL ∷ ops.ICONST_M1 ∷ ops.ICONST_0 ∷ ops.ICONST_1 ∷ ops.ICONST_2 ∷ ops.ICONST_3 ∷ ops.ICONST_4 ∷ ops.ICONST_5 ∷ ops.LCONST_0 ∷ ops.LCONST_1 ∷ ops.FCONST_0 ∷ ops.FCONST_1 ∷ ops.FCONST_2 ∷ ops.DCONST_0 ∷ ops.DCONST_1 ∷ ops.BIPUSH ∷ ops.SIPUSH ∷ ops.LDC ∷ ops.LDC_W ∷ ops.LDC2_W ∷ []
    ≡ 0 ∷ 1 ∷ 2 ∷ 3 ∷ 4 ∷ 5 ∷ 6 ∷ 7 ∷ 8 ∷ 9 ∷ 10 ∷ 11 ∷ 12 ∷ 13 ∷ 14 ∷ 15 ∷ 16 ∷ 17 ∷ 18 ∷ 19 ∷ 20 ∷ []
constants = refl

loads : ops.ILOAD ∷ ops.LLOAD ∷ ops.FLOAD ∷ ops.DLOAD ∷ ops.ALOAD ∷ ops.ILOAD_0 ∷ ops.ILOAD_1 ∷ ops.ILOAD_2 ∷ ops.ILOAD_3 ∷ ops.LLOAD_0 ∷ ops.LLOAD_1 ∷ ops.LLOAD_2 ∷ ops.LLOAD_3 ∷ ops.FLOAD_0 ∷ ops.FLOAD_1 ∷ ops.FLOAD_2 ∷ ops.FLOAD_3 ∷ ops.DLOAD_0 ∷ ops.DLOAD_1 ∷ ops.DLOAD_2 ∷ ops.DLOAD_3 ∷ ops.ALOAD_0 ∷ ops.ALOAD_1 ∷ ops.ALOAD_2 ∷ ops.ALOAD_3 ∷ ops.IALOAD ∷ ops.LALOAD ∷ ops.FALOAD ∷ ops.DALOAD ∷ ops.AALOAD ∷ ops.BALOAD ∷ ops.CALOAD ∷ ops.SALOAD ∷ []
    ≡ 21 ∷ 22 ∷ 23 ∷ 24 ∷ 25 ∷ 26 ∷ 27 ∷ 28 ∷ 29 ∷ 30 ∷ 31 ∷ 32 ∷ 33 ∷ 34 ∷ 35 ∷ 36 ∷ 37 ∷ 38 ∷ 39 ∷ 40 ∷ 41 ∷ 42 ∷ 43 ∷ 44 ∷ 45 ∷ 46 ∷ 47 ∷ 48 ∷ 49 ∷ 50 ∷ 51 ∷ 52 ∷ 53 ∷ []
loads = refl

stores : ops.ISTORE ∷ ops.LSTORE ∷ ops.FSTORE ∷ ops.DSTORE ∷ ops.ASTORE ∷ ops.ISTORE_0 ∷ ops.ISTORE_1 ∷ ops.ISTORE_2 ∷ ops.ISTORE_3 ∷ ops.LSTORE_0 ∷ ops.LSTORE_1 ∷ ops.LSTORE_2 ∷ ops.LSTORE_3 ∷ ops.FSTORE_0 ∷ ops.FSTORE_1 ∷ ops.FSTORE_2 ∷ ops.FSTORE_3 ∷ ops.DSTORE_0 ∷ ops.DSTORE_1 ∷ ops.DSTORE_2 ∷ ops.DSTORE_3 ∷ ops.ASTORE_0 ∷ ops.ASTORE_1 ∷ ops.ASTORE_2 ∷ ops.ASTORE_3 ∷ ops.IASTORE ∷ ops.LASTORE ∷ ops.FASTORE ∷ ops.DASTORE ∷ ops.AASTORE ∷ ops.BASTORE ∷ ops.CASTORE ∷ ops.SASTORE ∷ []
    ≡ 54 ∷ 55 ∷ 56 ∷ 57 ∷ 58 ∷ 59 ∷ 60 ∷ 61 ∷ 62 ∷ 63 ∷ 64 ∷ 65 ∷ 66 ∷ 67 ∷ 68 ∷ 69 ∷ 70 ∷ 71 ∷ 72 ∷ 73 ∷ 74 ∷ 75 ∷ 76 ∷ 77 ∷ 78 ∷ 79 ∷ 80 ∷ 81 ∷ 82 ∷ 83 ∷ 84 ∷ 85 ∷ 86 ∷ []
stores = refl

stack : ops.POP ∷ ops.POP2 ∷ ops.DUP ∷ ops.DUP_X1 ∷ ops.DUP_X2 ∷ ops.DUP2 ∷ ops.DUP2_X1 ∷ ops.DUP2_X2 ∷ ops.SWAP ∷ []
    ≡ 87 ∷ 88 ∷ 89 ∷ 90 ∷ 91 ∷ 92 ∷ 93 ∷ 94 ∷ 95 ∷ []
stack = refl

arithmetic : ops.IADD ∷ ops.LADD ∷ ops.FADD ∷ ops.DADD ∷ ops.ISUB ∷ ops.LSUB ∷ ops.FSUB ∷ ops.DSUB ∷ ops.IMUL ∷ ops.LMUL ∷ ops.FMUL ∷ ops.DMUL ∷ ops.IDIV ∷ ops.LDIV ∷ ops.FDIV ∷ ops.DDIV ∷ ops.IREM ∷ ops.LREM ∷ ops.FREM ∷ ops.DREM ∷ ops.INEG ∷ ops.LNEG ∷ ops.FNEG ∷ ops.DNEG ∷ ops.ISHL ∷ ops.LSHL ∷ ops.ISHR ∷ ops.LSHR ∷ ops.IUSHR ∷ ops.LUSHR ∷ ops.IAND ∷ ops.LAND ∷ ops.IOR ∷ ops.LOR ∷ ops.IXOR ∷ ops.LXOR ∷ ops.IINC ∷ []
    ≡ 96 ∷ 97 ∷ 98 ∷ 99 ∷ 100 ∷ 101 ∷ 102 ∷ 103 ∷ 104 ∷ 105 ∷ 106 ∷ 107 ∷ 108 ∷ 109 ∷ 110 ∷ 111 ∷ 112 ∷ 113 ∷ 114 ∷ 115 ∷ 116 ∷ 117 ∷ 118 ∷ 119 ∷ 120 ∷ 121 ∷ 122 ∷ 123 ∷ 124 ∷ 125 ∷ 126 ∷ 127 ∷ 128 ∷ 129 ∷ 130 ∷ 131 ∷ 132 ∷ []
arithmetic = refl

conversions : ops.I2L ∷ ops.I2F ∷ ops.I2D ∷ ops.L2I ∷ ops.L2F ∷ ops.L2D ∷ ops.F2I ∷ ops.F2L ∷ ops.F2D ∷ ops.D2I ∷ ops.D2L ∷ ops.D2F ∷ ops.I2B ∷ ops.I2C ∷ ops.I2S ∷ []
    ≡ 133 ∷ 134 ∷ 135 ∷ 136 ∷ 137 ∷ 138 ∷ 139 ∷ 140 ∷ 141 ∷ 142 ∷ 143 ∷ 144 ∷ 145 ∷ 146 ∷ 147 ∷ []
conversions = refl

comparisons : ops.LCMP ∷ ops.FCMPL ∷ ops.FCMPG ∷ ops.DCMPL ∷ ops.DCMPG ∷ ops.IFEQ ∷ ops.IFNE ∷ ops.IFLT ∷ ops.IFGE ∷ ops.IFGT ∷ ops.IFLE ∷ ops.IF_ICMPEQ ∷ ops.IF_ICMPNE ∷ ops.IF_ICMPLT ∷ ops.IF_ICMPGE ∷ ops.IF_ICMPGT ∷ ops.IF_ICMPLE ∷ ops.IF_ACMPEQ ∷ ops.IF_ACMPNE ∷ []
    ≡ 148 ∷ 149 ∷ 150 ∷ 151 ∷ 152 ∷ 153 ∷ 154 ∷ 155 ∷ 156 ∷ 157 ∷ 158 ∷ 159 ∷ 160 ∷ 161 ∷ 162 ∷ 163 ∷ 164 ∷ 165 ∷ 166 ∷ []
comparisons = refl

control : ops.GOTO ∷ ops.TABLESWITCH ∷ ops.LOOKUPSWITCH ∷ ops.IRETURN ∷ ops.LRETURN ∷ ops.FRETURN ∷ ops.DRETURN ∷ ops.ARETURN ∷ ops.RETURN ∷ []
    ≡ 167 ∷ 170 ∷ 171 ∷ 172 ∷ 173 ∷ 174 ∷ 175 ∷ 176 ∷ 177 ∷ []
control = refl

references : ops.GETSTATIC ∷ ops.PUTSTATIC ∷ ops.GETFIELD ∷ ops.PUTFIELD ∷ ops.INVOKEVIRTUAL ∷ ops.INVOKESPECIAL ∷ ops.INVOKESTATIC ∷ ops.INVOKEINTERFACE ∷ ops.INVOKEDYNAMIC ∷ ops.NEW ∷ ops.NEWARRAY ∷ ops.ANEWARRAY ∷ ops.ARRAYLENGTH ∷ ops.ATHROW ∷ ops.CHECKCAST ∷ ops.INSTANCEOF ∷ ops.MONITORENTER ∷ ops.MONITOREXIT ∷ []
    ≡ 178 ∷ 179 ∷ 180 ∷ 181 ∷ 182 ∷ 183 ∷ 184 ∷ 185 ∷ 186 ∷ 187 ∷ 188 ∷ 189 ∷ 190 ∷ 191 ∷ 192 ∷ 193 ∷ 194 ∷ 195 ∷ []
references = refl

further_ones : ops.WIDE ∷ ops.MULTIANEWARRAY ∷ ops.IFNULL ∷ ops.IFNONNULL ∷ ops.GOTO_W ∷ []
    ≡ 196 ∷ 197 ∷ 198 ∷ 199 ∷ 200 ∷ []
further_ones = refl
